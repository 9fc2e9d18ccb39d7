use Rattle.fm_async_tests.specs.Knows.{IsReader}
use Rattle.fm_async_tests.proofs.tests.sets.end_in_order.Given as goal

abbrev pub invariant-loop-i : goal.invariant-loop-i
invariant-loop-i g l = IsReader l.pool l.first × IsReader l.pool l.second × IsReader l.pool l.third
