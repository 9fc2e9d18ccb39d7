-- The numbers of the lines that make names.
use Rattle.std.specs.{Prelude.{◌≡◌, ℕ, ◌+◌, Bool, false, if◌then◌else◌, List, [], ◌∷◌, Option, Some, None, bytes_eq}, BTreeMap.{get_by_text}}
use Rattle.fm_script_text.specs.{declared.line.Line.{Line}, Rules.{Made, made}}
use Rattle.fm_script_lines.specs.declared.numbers.Numbers.{Numbers}

abbrev pub is_made : List ℕ → Option Made → Bool
is_made name None = false
is_made name (Some m) = bytes_eq m.name name

-- the number, unless it is told otherwise
abbrev pub unless : Option ℕ → Option ℕ → Option ℕ
unless (Some n) other = Some n
unless None other = other

-- the number of the line that makes the name, where theirs begin at k; of the last one, should there be two
abbrev pub number_from : ℕ → List Line → List ℕ → Option ℕ
number_from k [] name = None
number_from k (l ∷ ls) name = unless (number_from (k + 1) ls name) (if is_made name (made l.command) then Some k else None)

-- the number that is kept
abbrev pub number_at : Numbers → List ℕ → Option ℕ
number_at names name = get_by_text names.makers name

-- those of these lines, of which the first has number 0, are kept
abbrev pub AreNumbers : List Line → Numbers → Type 0
AreNumbers lines names = (name : List ℕ) → number_at names name ≡ number_from 0 lines name
