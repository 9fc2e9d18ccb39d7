-- A machine over bytes: where it stands, and where the next byte leads, unless the machine refuses it.
use Rattle.std.specs.Prelude.{ℕ, Option, Some, None, List, [], ◌∷◌}

-- where one more byte leads
abbrev pub onward : {S : Type 0} → (S → ℕ → Option S) → Option S → ℕ → Option S
onward step None byte = None
onward step (Some s) byte = step s byte

-- where the bytes lead, unless one of them is refused
abbrev pub run : {S : Type 0} → (S → ℕ → Option S) → List ℕ → Option S → Option S
run step [] s = s
run step (b ∷ bs) s = run step bs (onward step s b)
