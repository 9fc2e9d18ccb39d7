use Rattle.fm_rule_calls.proofs.Lasting.{lasts_then}
use Rattle.fm_gate_tests.proofs.tests.gates.stored.Goals as goal

pub returns-clause-lasts : goal.returns-clause-lasts
returns-clause-lasts g c = lasts_then c.put.ensures.lasts c.put-2.ensures.lasts
