use Rattle.fm_rule.specs.Passes.{IsOf}
use Rattle.fm_gate.proofs.Readings.{Reading}
use Rattle.fm_gate.proofs.allocating.has_parts.Given as goal

abbrev pub invariant-loop-part : goal.invariant-loop-part
invariant-loop-part l = IsOf l.pool l.pass × Reading l.fn.pass l.pass l.fn.from l.fn.to l.part
