use Rattle.std.proofs.Common.{◌∙◌}
use Rattle.fm_workers_tests.proofs.crews.write_records.Goals as goal

pub returns-clause-pages : goal.returns-clause-pages
returns-clause-pages c =
    c.write-8.ensures.pages ∙ c.write-7.ensures.pages ∙ c.write-6.ensures.pages ∙ c.write-5.ensures.pages
    ∙ c.write-4.ensures.pages ∙ c.write-3.ensures.pages ∙ c.write-2.ensures.pages ∙ c.write.ensures.pages
