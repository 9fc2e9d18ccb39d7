use Rattle.fm_rule_facts.specs.Steps.{HasPlace}
use Rattle.fm_gate.proofs.Tries.{Trying}
use Rattle.fm_gate.proofs.patching.patch.Given as goal

abbrev pub invariant-loop : goal.invariant-loop
invariant-loop g l = Trying l.pool l.fn.pass l.pass l.word l.mask l.bits × HasPlace l.pass l.word l.place
