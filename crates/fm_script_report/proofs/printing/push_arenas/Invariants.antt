use Rattle.std.{proofs.Common.{◌≡◌, ◌++◌, take}, specs.{List.{flat_map}, String.{string_bytes}}}
use Rattle.fm_script_report.specs.Texts.{arena_text}
use Rattle.fm_script_report.proofs.printing.push_arenas.Given as goal

abbrev pub invariant-loop-arena : goal.invariant-loop-arena
invariant-loop-arena l = string_bytes l.text ≡ string_bytes l.initial.text ++ flat_map arena_text (take l.arena-index l.alive)
