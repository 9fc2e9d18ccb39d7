use Rattle.std.proofs.Common.{◌∙◌}
use Rattle.fm_workers_tests.proofs.Pages.{can_allocate, pages_kept}
use Rattle.fm_workers_tests.proofs.crews.stocked.Goals as goal

pub allocate-requires : goal.allocate-requires
allocate-requires g c = can_allocate c.open_arena.ensures c.expect-a.ensures c.requires.no_page

pub returns-clause-no_page : goal.returns-clause-no_page
returns-clause-no_page g c =
    let allocated = pages_kept c.allocate.ensures.did ∙ pages_kept c.open_arena.ensures.did in
    pages_kept c.leave.ensures.did ∙ c.write_records.ensures.pages ∙ pages_kept c.enter.ensures.did ∙ allocated ∙ c.requires.no_page
