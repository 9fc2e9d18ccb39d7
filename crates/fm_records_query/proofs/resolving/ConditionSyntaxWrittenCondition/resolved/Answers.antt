-- The path's own refusal comes first; an open step only where there is none.
use Rattle.std.proofs.Common.{◌∙◌, ap, inl, sym}
use Rattle.fm_records_query.{specs.Parsed.{first_open, at_path, left_open}, proofs.Plans.{passed_on}}
use Rattle.fm_records_query.proofs.resolving.ConditionSyntaxWrittenCondition.resolved.Goals as goal

pub returns-in_err-path-clause-refused : goal.returns-in_err-path-clause-refused
returns-in_err-path-clause-refused c =
    passed_on _ _ _ c.from_residual.ensures.1
    (inl (at_path c.in_err-path.field-0.0 (rw c.as_slice.ensures at c.in_err-path.ensures.refused)))

pub returns-in-Some-clause-refused : goal.returns-in-Some-clause-refused
returns-in-Some-clause-refused c =
    inl (left_open c.in-Some.step c.in_ok-path.path (rw c.as_slice.ensures at c.in_ok-path.ensures.resolved)
    (sym (c.in-Some.ensures ∙ ap first_open c.as_slice-2.ensures)))
