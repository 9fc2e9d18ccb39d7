use Rattle.fm_base.specs.Learnt.{CanVisit}
use Rattle.fm_arena_tests.proofs.tests.body.asks.Given as goal

abbrev pub invariant-loop-k : goal.invariant-loop-k
invariant-loop-k g l = CanVisit (g.M.Memory.view l.m) l.id
