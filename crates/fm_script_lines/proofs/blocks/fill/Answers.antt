use Rattle.std.proofs.Common.{sym, ◌∙◌}
use Rattle.fm_script_lines.{specs.Calls.{Fills}, proofs.Lines.{line_none}}
use Rattle.fm_script_lines.proofs.blocks.fill.Goals as goal

pub returns-in_default : goal.returns-in_default
returns-in_default g c = line_none c.args.m.now _
    (Fills c.args.m.now.caller c.args.byte) c.plain.result (sym c.segment.ensures ∙ c.in_default.is) c.requires.outside c.plain.ensures
