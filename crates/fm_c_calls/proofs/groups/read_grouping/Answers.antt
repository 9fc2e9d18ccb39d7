use Rattle.std.proofs.{lemmas.Result.{err_from_is_err_and, IfErr-weaker}}
use Rattle.fm_c_calls.specs.Grouped.{no_layout, unplaced}
use Rattle.fm_c_calls.proofs.Valued.{has_values}
use Rattle.fm_c_calls.proofs.groups.read_grouping.Goals as goal

pub returns-in_err-layout-clause-refused : goal.returns-in_err-layout-clause-refused
returns-in_err-layout-clause-refused c =
    let p = err_from_is_err_and c.from_residual.result c.from_residual.ensures.1 in
    rw (p.1, p.2) (no_layout c.in_err-layout.ensures.refused)

pub returns-clause-values : goal.returns-clause-values
returns-clause-values c = has_values c.args.path.now c.in_ok-layout.ensures.layout.records c.resolve_in.result c.resolve_in.ensures.resolved c.resolve_in.ensures.inside

pub returns-clause-refused : goal.returns-clause-refused
returns-clause-refused c =
    IfErr-weaker c.resolve_in.result _ _ (λ e denied. unplaced c.in_ok-layout.layout c.in_ok-layout.ensures.layout denied) c.resolve_in.ensures.refused
