use Rattle.fm_rule_calls.proofs.Lasting.{lasts_then}
use Rattle.fm_gate_tests.proofs.tests.gates.are_words.Goals as goal

pub returns-clause-lasts : goal.returns-clause-lasts
returns-clause-lasts g c = lasts_then c.word_of.ensures.lasts c.word_of-2.ensures.lasts
