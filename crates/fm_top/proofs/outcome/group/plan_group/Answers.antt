use Rattle.std.proofs.lemmas.Result.{IfErr-weaker, IfOk-weaker}
use Rattle.fm_records_query.specs.Lists.{refused}
use Rattle.fm_top.proofs.Grouped.{has_values}
use Rattle.fm_top.proofs.outcome.group.plan_group.Goals as goal

pub returns-clause-has_values : goal.returns-clause-has_values
returns-clause-has_values c =
    IfOk-weaker c.resolve.result _ _ (λ r is. has_values c.args.layout.now r _ c.requires.well_formed c.requires.records is) c.resolve.ensures.resolved

pub returns-clause-refused : goal.returns-clause-refused
returns-clause-refused c =
    IfErr-weaker c.resolve.result _ _ (λ e denied other. record { no_list = refused c.deref.result.now (rw c.deref.ensures.value c.in_ok-path.ensures.path) denied; refused = other })
    c.resolve.ensures.refused
