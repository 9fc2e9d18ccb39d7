-- What is kept of names: looking one up, and taking its hold or handle out.
use Rattle.std.specs.Prelude.{◌≡◌, ℕ, ◌+◌, ◌<◌, ◌≤◌, set, get_or, length, List, Option, Some, None}
use Rattle.fm_script_lines.specs.{declared.standing.Standing.{Standing, TheVariants.{Nothing}}, Standings.{arena_of, segment_of, standing_of}}

-- the first may be used as an arena and as a segment as the second may
pub record SeenAs (s t : Standing) : Type 0 where
  pub arena : arena_of s ≡ arena_of t
  pub segment : segment_of s ≡ segment_of t

-- the line of this number is the pass's own, of this place among them
pub record IsOwn (others start many : ℕ) (number : Option ℕ) (at : ℕ) : Type 0 where
  pub within : at < many
  pub behind : others ≤ start + at
  pub is : number ≡ Some (start + at)

-- what was at this place is left as it is behind the taking
pub record TookAt (left : Standing → Standing) (many_others start : ℕ) (old new : List Standing) (number : Option ℕ) (at : ℕ) : Type 0 where
  pub own : IsOwn many_others start (length old) number at
  pub new_is : new ≡ set old at (left (get_or old at Nothing))

-- A hold or handle was taken out from where the number leads; or there is none
abbrev pub Took : {T : Type 0} → (Standing → Standing) → (Standing → Option T) → List Standing → ℕ → List Standing → List Standing → Option ℕ → Option T
    → Type 0
Took left token base start old new number None = (token (standing_of base start old number) ≡ None) × (new ≡ old)
Took left token base start old new number (Some t) =
    (token (standing_of base start old number) ≡ Some t) × ((at : ℕ) × TookAt left (length base) start old new number at)
