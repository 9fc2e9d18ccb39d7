use Rattle.std.proofs.Common.{◌≡◌, map, take}
use Rattle.fm_script_lines.specs.Standings.{arena_of, standing_as}
use Rattle.fm_script.proofs.joining.opened_by.Given as goal

abbrev pub invariant-loop-name : goal.invariant-loop-name
invariant-loop-name l = l.opened.items ≡ map (λ name. arena_of (standing_as name)) (take l.name-index l.lent)
