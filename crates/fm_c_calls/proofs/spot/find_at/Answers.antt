use Rattle.std.proofs.Common.{◌+◌, ◌<◌, refl, arith}
use Rattle.fm_c_calls.specs.Located.{index_out, record_out, value_out}
use Rattle.fm_c_calls.proofs.spot.find_at.Goals.{then-within-place-via-then-within-place, then-within-place-via-else-within-place+then-within-place-2}
use Rattle.fm_c_calls.proofs.spot.find_at.Goals as goal

pub returns-in-Some : goal.returns-in-Some
returns-in-Some c = (refl, index_out c.in-Some.k c.in-Some.ensures)

pub returns-then-within-place : goal.returns-then-within-place
returns-then-within-place c =
    let past : c.args.within.now.size < c.args.within.now.base + c.args.place.now.root_size = elim c.then-within-place.branch [
      | then-within-place-via-then-within-place w ↦ omega (arith, w.if-within-place)
      | then-within-place-via-else-within-place+then-within-place-2 w ↦ omega (arith, w.if-within-place, w.if-within-place-2)
    ] in
    (refl, record_out c.in-None.ensures past)

pub returns-in-None-offset_in : goal.returns-in-None-offset_in
returns-in-None-offset_in c =
    (refl, value_out c.in-None.ensures (omega (arith, c.if-within-place.false, c.if-within-place-2.false)) c.in-None-offset_in.ensures)
