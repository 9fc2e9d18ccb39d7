use Rattle.std.specs.Prelude.{IfSome}
use Rattle.fm_gate.specs.Needs.{CanLeave}
use Rattle.fm_example.proofs.closes.work.Given as goal

abbrev pub invariant-loop : goal.invariant-loop
invariant-loop g l = (goal.iterator-loop g).can_next l.iterator' × (goal.iterator-loop g).is_finite l.iterator' × IfSome l.reader (λ pass. CanLeave l.pool pass)
