use Rattle.std.proofs.Common.{sym, ◌∙◌}
use Rattle.fm_segment.specs.Region.{Region}
use Rattle.fm_script_lines.{specs.{Calls.{On, Copies}, Standings.{segment_of, standing_as}}, proofs.Lines.{line_none, line_some}}
use Rattle.fm_script_lines.proofs.blocks.copy.Goals as goal

pub returns-in_default : goal.returns-in_default
returns-in_default g c =
    line_none c.args.m.now _ (λ (r : Region). On (segment_of (standing_as c.args.target)) (Copies c.args.m.now.caller r)) c.plain.result
    (sym c.segment.ensures ∙ c.in_default.is) c.requires.outside c.plain.ensures

pub returns-in_default-segment : goal.returns-in_default-segment
returns-in_default-segment g c =
    let p = c.args.m.now in
    line_some _ c.in-Some.source (λ (r : Region). On (segment_of (standing_as c.args.target)) (Copies p.caller r)) _
    (sym c.segment.ensures ∙ c.in-Some.is)
    (line_none p _ (Copies p.caller c.in-Some.source) _ (sym c.segment-2.ensures ∙ c.in_default-segment.is) c.requires.outside
    c.plain-in_default-segment.ensures)
