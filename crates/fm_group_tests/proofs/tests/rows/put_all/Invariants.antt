use Rattle.fm_base.specs.Outcomes.{Lasts}
use Rattle.fm_segment.specs.Learnt.{CanUse}
use Rattle.fm_group_tests.proofs.tests.rows.put_all.Given as goal

abbrev pub invariant-loop-number : goal.invariant-loop-number
invariant-loop-number g l =
    let v = g.M.Memory.view in
    record {
      can : CanUse (v l.m) l.s;
      lasts : Lasts (v l.fn.m) (v l.m);
    }
