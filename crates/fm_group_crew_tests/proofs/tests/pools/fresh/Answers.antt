use Rattle.std.proofs.Common.{◌∙◌}
use Rattle.fm_rule_calls.proofs.Lasting.{lasts_then}
use Rattle.fm_group_crew_tests.proofs.Pages.{can_allocate, pages_kept}
use Rattle.fm_group_crew_tests.proofs.tests.pools.fresh.Goals as goal

pub allocate-requires : goal.allocate-requires
allocate-requires g c = can_allocate c.open_arena.ensures c.expect-a.ensures c.requires.no_page

pub returns-clause-no_page : goal.returns-clause-no_page
returns-clause-no_page g c = pages_kept c.allocate.ensures.did ∙ pages_kept c.open_arena.ensures.did ∙ c.requires.no_page

pub returns-clause-lasts : goal.returns-clause-lasts
returns-clause-lasts g c = lasts_then c.open_arena.ensures.lasts c.allocate.ensures.lasts
