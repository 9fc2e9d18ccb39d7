use Rattle.fm_rule_calls.proofs.Lasting.{lasts_then}
use Rattle.fm_gate_tests.proofs.tests.pools.word_of.Goals as goal

pub returns-clause-lasts : goal.returns-clause-lasts
returns-clause-lasts c = lasts_then (lasts_then c.enter.ensures.lasts c.load-found.ensures.lasts) c.leave.ensures.lasts
