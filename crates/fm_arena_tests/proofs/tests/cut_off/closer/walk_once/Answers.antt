use Rattle.fm_rule_calls.proofs.Lasting.{lasts_then}
use Rattle.fm_arena_tests.proofs.tests.cut_off.closer.walk_once.Goals as goal

pub returns-in-Next-visit-clause-lasts : goal.returns-in-Next-visit-clause-lasts
returns-in-Next-visit-clause-lasts c = lasts_then c.visit.ensures.lasts c.visit-in-Next.ensures.lasts

pub returns-in_default-visit-clause-lasts : goal.returns-in_default-visit-clause-lasts
returns-in_default-visit-clause-lasts c = lasts_then c.visit.ensures.lasts c.visit-in-Next.ensures.lasts
