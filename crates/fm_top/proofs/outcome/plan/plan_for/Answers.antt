use Rattle.std.proofs.{Common.{⊎_elim}, lemmas.Result.{IfErr-weaker}}
use Rattle.fm_top.proofs.outcome.plan.plan_for.Goals as goal

pub returns-in-Query-clause-refused : goal.returns-in-Query-clause-refused
returns-in-Query-clause-refused c =
    let told = IfErr-weaker c.parse_query.result _ _ (λ e denied other. record { no_query = denied; refused = other }) c.parse_query.ensures.refused in
    ⊎_elim (λ is. rw is told) (λ is. rw is told) c.in-Query.is
