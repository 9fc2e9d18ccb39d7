use Rattle.fm_base.specs.Outcomes.{Lasts}
use Rattle.fm_segment.specs.Learnt.{CanUse}
use Rattle.fm_arena_tests.proofs.tests.segment_calls.calls.Given as goal

abbrev pub invariant-loop-k : goal.invariant-loop-k
invariant-loop-k g l =
    let v = g.M.Memory.view in
    record {
      can : CanUse (v l.m) l.s;
      lasts : Lasts (v l.fn.m) (v l.m);
    }
