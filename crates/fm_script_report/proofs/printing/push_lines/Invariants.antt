use Rattle.std.{proofs.Common.{◌≡◌, ◌++◌, take}, specs.{List.{flat_map}, String.{string_bytes}}}
use Rattle.fm_script_report.specs.Texts.{line_text}
use Rattle.fm_script_report.proofs.printing.push_lines.Given as goal

abbrev pub invariant-loop-line : goal.invariant-loop-line
invariant-loop-line l = string_bytes l.text ≡ string_bytes l.initial.text ++ flat_map line_text (take l.line-index l.lines)
