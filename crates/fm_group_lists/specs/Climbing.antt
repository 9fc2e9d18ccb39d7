-- Pairs of a number and a count in the order of their numbers, and one pair more at their end.
use Rattle.std.specs.{Prelude.{◌≢◌, ℕ, ◌+◌, ◌%◌, ◌^◌, List, [], ◌∷◌, ◌++◌, ℤ, ◌≤ℤ◌, ⊤}, List.{AllByRecursion}}
use Rattle.fm_group_lists.specs.Groups.{Group}

-- no number is below one before it
abbrev pub IsClimbing : List Group → Type 0
IsClimbing [] = ⊤
IsClimbing (x ∷ xs) = AllByRecursion (λ y. x.0 ≤ℤ y.0) xs × IsClimbing xs

-- the last pair isn't this number's
abbrev pub EndsElsewhere : ℤ → List Group → Type 0
EndsElsewhere n gs = (before : List Group) (count : ℕ) → gs ≢ before ++ (n, count) ∷ []

-- the last pair was taken away where it is this number's; its count, or 0
pub data Takes (n : ℤ) : List Group → List Group → ℕ → Type 0 where
  last : (gs : List Group) (count : ℕ) → Takes n (gs ++ (n, count) ∷ []) gs count
  none : (gs : List Group) → EndsElsewhere n gs → Takes n gs gs 0

-- this number's count was added to the last pair, where it is this number's, or the pair behind it
pub data Puts (n : ℤ) (more : ℕ) : List Group → List Group → Type 0 where
  again : (gs : List Group) (count : ℕ) → Puts n more (gs ++ (n, count) ∷ []) (gs ++ (n, (count + more) % 2 ^ 64) ∷ [])
  first : (gs : List Group) → EndsElsewhere n gs → Puts n more gs (gs ++ (n, more) ∷ [])
