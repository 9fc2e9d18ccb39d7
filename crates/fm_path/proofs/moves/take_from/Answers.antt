-- Where there is a second index, a step stays in the sequence.
use Rattle.std.proofs.{Common.{arith, ap, ◌*◌, w64, of_z}, lemmas.Int.{to_z-of_z}}
use Rattle.fm_path_meaning.proofs.Bounds.{is_short}
use Rattle.fm_path.proofs.moves.take_from.Goals as goal

pub stride-stride-requires-clause-fits : goal.stride-stride-requires-clause-fits
stride-stride-requires-clause-fits c =
    let e = to_z-of_z w64 c.args.step (record { sfits = c.ranges.step.sfits }) in
    rw e
    (is_short c.args.first c.args.step c.in_ok-count.count c.size-bytes.result c.bound-bound.result (omega arith)
    (λ q. c.if-step-eq0.false (ap (of_z w64) q))
    (rw e at c.bound-bound.ensures)
    (omega (arith, ap (λ x. c.in_ok-count.count * x) c.size-bytes.ensures.size, c.in_ok-count.ensures.fits.fits)))
