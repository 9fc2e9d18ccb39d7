use Rattle.std.{proofs.{Common.{rules, ◌≡◌, ap, ◌∙◌}, lemmas.Int.{to_z-of_z}}, specs.Int.{w64, cast_unsigned, cast_signed}}
use Rattle.fm_path.proofs.Indices.{moves}
use Rattle.fm_c_calls.proofs.values.reach_of.Goals as goal

pub returns : goal.returns
returns c =
    let s = c.args.dim.stride in
    let read : cast_signed w64 (cast_unsigned w64 s) ≡ s = to_z-of_z w64 s (search rules) in
    moves c.args.at s c.args.index c.cast_unsigned.result c.ranges.at.fits (c.cast_unsigned.ensures ∙ ap (cast_unsigned w64) read) c.requires
