use Rattle.std.proofs.Common.{◌≡◌, take}
use Rattle.fm_script_lines.specs.Numbers.{number_at}
use Rattle.fm_script_report.specs.Alive.{alive_of, arena_by}
use Rattle.fm_script_report.proofs.alive.alive_arenas.Given as goal

abbrev pub invariant-loop-line : goal.invariant-loop-line
invariant-loop-line l = l.alive.items ≡ alive_of l.finished (arena_by (number_at l.names) l.opened) (take l.line-index l.lines)
