use Rattle.std.proofs.Common.{sym, ◌∙◌}
use Rattle.fm_script_text.proofs.Lines.{line_cut, line_whole}
use Rattle.fm_script_text.proofs.sources.cut_line.Goals as goal

pub returns-in-Some-clause-cut : goal.returns-in-Some-clause-cut
returns-in-Some-clause-cut c = line_cut c.args.bytes.now c.in-Some.at (sym c.newline_in.ensures ∙ c.in-Some.is)

pub returns-in-None-clause-cut : goal.returns-in-None-clause-cut
returns-in-None-clause-cut c = line_whole c.args.bytes.now c.requires (sym c.newline_in.ensures ∙ c.in-None.is)
