-- The names of layouts: 1 to 64 ASCII letters, digits and _, no digit first.
use Rattle.std.specs.Prelude.{ℕ, ◌≤◌, Bool, ◌&&◌, ◌||◌, nat_eq, nat_le, List, [], ◌∷◌, length, IsTrue}

-- an ASCII letter or _
abbrev pub is_letter : ℕ → Bool
is_letter c = (nat_le 97 c && nat_le c 122) || ((nat_le 65 c && nat_le c 90) || nat_eq c 95)

abbrev pub is_digit : ℕ → Bool
is_digit c = nat_le 48 c && nat_le c 57

-- letters, digits and _
abbrev pub IsNameEnd : List ℕ → Type 0
IsNameEnd [] = Unit {0}
IsNameEnd (c ∷ cs) = IsTrue (is_letter c || is_digit c) × IsNameEnd cs

abbrev pub IsName : List ℕ → Type 0
IsName [] = ⊥
IsName (c ∷ cs) = IsTrue (is_letter c) × IsNameEnd cs × (length (c ∷ cs) ≤ 64)
