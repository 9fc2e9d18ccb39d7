use Rattle.std.proofs.{Common.{refl, w64}, lemmas.Int.{to_z-of_z}}
use Rattle.fm_lanes.specs.declared.value.Value.TheVariants.{Long}
use Rattle.fm_handle.proofs.Words.{number_is}
use Rattle.fm_handle.proofs.word.word_of.Goals as goal

pub returns : goal.returns
returns c =
    let e = rw (to_z-of_z w64 c.args.v c.ranges.v) at c.encode.ensures.encoded in
    (number_is c.args.order (Long c.args.v) refl e c.encode.ensures.fits c.turned.ensures.turned).0
