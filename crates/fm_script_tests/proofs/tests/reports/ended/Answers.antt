use Rattle.fm_rule_calls.proofs.Lasting.{lasts_then}
use Rattle.fm_script_tests.proofs.tests.reports.ended.Goals as goal

pub returns-clause-lasts : goal.returns-clause-lasts
returns-clause-lasts g c = lasts_then c.open_arena.ensures.lasts c.close.ensures.lasts
