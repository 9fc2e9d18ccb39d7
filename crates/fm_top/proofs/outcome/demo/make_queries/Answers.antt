use Rattle.std.{proofs.Common.{sym, subst}, specs.Prelude.{codes}}
use Rattle.fm_layout.specs.Tree.{Tree}
use Rattle.fm_top.{specs.Demos.{IsQueryOver}, proofs.DemoQueries.{first_is_query, second_is_query}}
use Rattle.fm_top.proofs.outcome.demo.make_queries.Goals as goal

pub make_query-requires-clause-query : goal.make_query-requires-clause-query
make_query-requires-clause-query c =
    subst (λ (t : Tree). IsQueryOver (codes "count,sum(.amount),min(.amount),max(.amount)") t) (sym c.in_ok-layout.ensures) first_is_query

pub make_query-requires-2-clause-query : goal.make_query-requires-2-clause-query
make_query-requires-2-clause-query c =
    subst (λ (t : Tree). IsQueryOver (codes "count,sum(.id) where .kind=3") t) (sym c.in_ok-layout.ensures) second_is_query
