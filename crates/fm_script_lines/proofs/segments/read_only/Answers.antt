use Rattle.std.{proofs.Common.{◌≡◌, subst, sym, ap, Option, Ok, ◌∙◌}, specs.Prelude.{IfSome}}
use Rattle.fm_rule_calls.specs.Told.{view_of_pass}
use Rattle.fm_segment.specs.{Access.{IsKnown}, Region.{Region, read_only_of}}
use Rattle.fm_script_lines.{specs.Calls.{Called, Answers, segment_made}, proofs.Lines.{line_none, line_made}}
use Rattle.fm_script_lines.proofs.segments.read_only.Goals as goal

pub returns-in_default : goal.returns-in_default
returns-in_default c p outside known =
    line_none p _ (λ (r : Region). Called (Answers (Ok (read_only_of r))) segment_made) c.plain.result
    (sym c.segment.ensures ∙ c.in_default.is) outside c.plain.ensures

pub returns : goal.returns
returns c p outside known =
    let e : c.as_read_only.result ≡ read_only_of c.in-Some.segment = c.as_read_only.ensures in
    let here = subst (λ (o : Option Region). IfSome o (IsKnown (view_of_pass p))) (sym c.segment.ensures ∙ c.in-Some.is) known in
    line_made p _ c.in-Some.segment c.as_read_only.result (λ (r : Region). Ok (read_only_of r)) (sym c.segment.ensures ∙ c.in-Some.is) outside
    (ap (λ (r : Region). Ok r) e) (subst (λ (r : Region). IsKnown (view_of_pass p) r) (sym e) (record { arena = here.arena; given = here.given }))
