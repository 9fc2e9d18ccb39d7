use Rattle.fm_rule_calls.proofs.Lasting.{lasts_then}
use Rattle.fm_arena_tests.proofs.tests.cut_off.closer.words_of.Goals as goal

pub returns-clause-lasts : goal.returns-clause-lasts
returns-clause-lasts c = lasts_then (lasts_then c.word_of.ensures.lasts c.word_of-2.ensures.lasts) c.word_of-3.ensures.lasts
