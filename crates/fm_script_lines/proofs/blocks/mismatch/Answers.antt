use Rattle.std.proofs.Common.{sym, ◌∙◌}
use Rattle.fm_segment.specs.Region.{Region}
use Rattle.fm_script_lines.{specs.{Calls.{On, Compares}, Standings.{segment_of, standing_as}}, proofs.Lines.{line_none, line_some}}
use Rattle.fm_script_lines.proofs.blocks.mismatch.Goals as goal

pub returns-in_default : goal.returns-in_default
returns-in_default c =
    line_none c.args.m.now _ (λ (r : Region). On (segment_of (standing_as c.args.other)) (Compares c.args.m.now.caller r)) c.plain.result
    (sym c.segment.ensures ∙ c.in_default.is) c.requires.outside c.plain.ensures

pub returns-in_default-segment : goal.returns-in_default-segment
returns-in_default-segment c =
    let p = c.args.m.now in
    line_some _ c.in-Some.segment (λ (r : Region). On (segment_of (standing_as c.args.other)) (Compares p.caller r)) _
    (sym c.segment.ensures ∙ c.in-Some.is)
    (line_none p _ (Compares p.caller c.in-Some.segment) _ (sym c.segment-2.ensures ∙ c.in_default-segment.is) c.requires.outside
    c.plain-in_default-segment.ensures)
