use Rattle.std.{proofs.Common.{subst, sym, ◌∙◌, Option}, specs.Prelude.{IfSome}}
use Rattle.fm_rule_calls.specs.Told.{view_of_pass}
use Rattle.fm_segment.specs.{Access.{IsKnown}, Region.{Region}, Slices.{slice_of}}
use Rattle.fm_script_lines.{specs.Calls.{Called, Answers, segment_made}, proofs.Lines.{line_none, line_made, line_not_made, slice_known}}
use Rattle.fm_script_lines.proofs.segments.slice.Goals as goal

pub returns-in_default : goal.returns-in_default
returns-in_default c p outside known =
    line_none p _ (λ (r : Region). Called (Answers (slice_of c.args.offset c.args.size r)) segment_made) c.plain.result
    (sym c.segment.ensures ∙ c.in_default.is) outside
    c.plain.ensures

pub returns-in-Ok : goal.returns-in-Ok
returns-in-Ok c p outside known =
    let made = sym c.in-Ok.is ∙ c.as_slice.ensures in
    let here = subst (λ (o : Option Region). IfSome o (IsKnown (view_of_pass p))) (sym c.segment.ensures ∙ c.in-Some.is) known in
    line_made p _ c.in-Some.segment c.in-Ok.slice (λ (r : Region). slice_of c.args.offset c.args.size r) (sym c.segment.ensures ∙ c.in-Some.is) outside made
    (slice_known p c.args.offset c.args.size c.in-Some.segment c.in-Ok.slice made here)

pub returns-in-Err : goal.returns-in-Err
returns-in-Err c p outside known =
    line_not_made p _ c.in-Some.segment c.in-Err.refusal (λ (r : Region). slice_of c.args.offset c.args.size r) c.plain-in-Err.result
    (sym c.segment.ensures ∙ c.in-Some.is) outside (sym c.in-Err.is ∙ c.as_slice.ensures) c.plain-in-Err.ensures
