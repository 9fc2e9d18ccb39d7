-- One more byte leaves a name.
use Rattle.std.proofs.{Common.{◌<◌, ap, length, arith}, lemmas.List.{length-take}}
use Rattle.fm_path_text.proofs.Names.{name_written}
use Rattle.fm_path_text.proofs.name_text.NameText.push.Goals as goal

pub invariant_of-self : goal.invariant_of-self
invariant_of-self c =
    let room : c.self.inside.len < 64 = omega (arith, ap length c.self.view_is, length-take c.self.inside.len c.self.inside.bytes) in
    (omega arith, name_written _ _ _ c.self.told room c.self.invariant.1 c.requires.part)
