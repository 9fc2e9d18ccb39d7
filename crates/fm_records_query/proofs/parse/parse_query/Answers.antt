-- The text comes first, then the items, then the conditions.
use Rattle.std.proofs.Common.{ap, ◌∙◌}
use Rattle.fm_records_query.{specs.Grammar.{Syntax}, proofs.Plans.{is_plan, item_refused, condition_refused, passed_on}}
use Rattle.fm_records_query.proofs.parse.parse_query.Goals as goal

pub returns-in_err-items-clause-refused : goal.returns-in_err-items-clause-refused
returns-in_err-items-clause-refused c =
    passed_on _ _ _ c.from_residual-in_err-items.ensures.1 (item_refused _ _ _ _ _ c.in_ok-syntax.ensures.query
    (c.as_slice.ensures.value ∙ ap (λ (q : Syntax). q.items) c.syntax.view_is) c.in_err-items.ensures.refused)

pub returns-in_err-conditions-clause-refused : goal.returns-in_err-conditions-clause-refused
returns-in_err-conditions-clause-refused c =
    passed_on _ _ _ c.from_residual-in_err-conditions.ensures.1 (condition_refused _ _ _ _ _ _ _ c.in_ok-syntax.ensures.query
    (c.as_slice.ensures.value ∙ ap (λ (q : Syntax). q.items) c.syntax.view_is)
    (c.as_slice-2.ensures.value ∙ ap (λ (q : Syntax). q.conditions) c.syntax.view_is) c.in_ok-items.ensures.resolved c.in_err-conditions.ensures.refused)

pub of-requires : goal.of-requires
of-requires c =
    is_plan c.args.layout.now _ _ _ _ _ _ _ c.size.ensures.well_formed c.requires c.in_ok-syntax.ensures.query.is_query
    (c.as_slice.ensures.value ∙ ap (λ (q : Syntax). q.items) c.syntax.view_is)
    (c.as_slice-2.ensures.value ∙ ap (λ (q : Syntax). q.conditions) c.syntax.view_is) c.size.ensures.size c.alignment.ensures.alignment
    c.in_ok-items.ensures.resolved c.in_ok-conditions.ensures.resolved
