use Rattle.std.proofs.Common.{◌≡◌, ℕ, List, take}
use Rattle.fm_script_lines.specs.{Numbers.{number_at, number_from}, Ordering.{lines_at}}
use Rattle.fm_script_lines.proofs.numbers.Numbers.of_lines.Given as goal

abbrev pub invariant-loop-number : goal.invariant-loop-number
invariant-loop-number l = (name : List ℕ) → number_at l.names name ≡ number_from 0 (lines_at (take l.number l.lines)) name
