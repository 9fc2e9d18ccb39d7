use Rattle.fm_gate.specs.Needs.{CanVisit}
use Rattle.fm_async_tests.proofs.tests.threads.come_and_go.Given as goal

abbrev pub invariant-loop : goal.invariant-loop
invariant-loop l = CanVisit l.pool l.pass l.fn.arena
