use Rattle.fm_rule_calls.proofs.Lasting.{lasts_then}
use Rattle.fm_arena_tests.proofs.tests.arenas.renewed.Goals as goal

pub returns-clause-lasts : goal.returns-clause-lasts
returns-clause-lasts g c = lasts_then c.again.ensures.lasts c.give_back-gave.ensures.lasts
