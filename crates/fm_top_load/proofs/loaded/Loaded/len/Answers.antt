use Rattle.std.proofs.Common.{length, ap, sym, ◌∙◌}
use Rattle.fm_mono.specs.Shown.{view_of}
use Rattle.fm_top_load.proofs.GivenBytes.{length-loaded, loaded_is}
use Rattle.fm_top_load.proofs.loaded.Loaded.len.Goals as goal

pub returns : goal.returns
returns c =
    let l = c.self.inside in
    c.size.ensures.size ∙ sym (length-loaded c.self.invariant)
    ∙ ap length (loaded_is (view_of l.memory) l.segment ∙ c.self.view_is)
