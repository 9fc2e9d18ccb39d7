-- What the only caller of a memory sees of two ranges of bytes.
use Rattle.std.{specs.{Prelude.{◌≡◌, ℕ, ◌==◌, if◌then◌else◌, List, [], ◌∷◌, length, take, drop, Option, Some, None}, Option.{option_map}}, proofs.Common.{suc}}
use Rattle.fm_base.specs.{declared.arena_id.ArenaId.{ArenaId}, Arenas.{State}, View.{View}}
use Rattle.fm_segment_access.specs.Alone.{bytes_of_arena, ChangesBytes, IsOpen}
use Rattle.fm_segment_copies.specs.declared.side.Side.{Side}

-- the first `count` bytes of the side
abbrev pub bytes_at : State → Side → ℕ → List ℕ
bytes_at s a count = take count (drop a.at (bytes_of_arena s a.arena))

-- the index of the first byte that differs, or None where the lists are equal
abbrev pub first_difference : List ℕ → List ℕ → Option ℕ
first_difference [] [] = None
first_difference (x ∷ xs) (y ∷ ys) = if x == y then option_map suc (first_difference xs ys) else Some 0
first_difference xs ys = Some 0

-- `found` is the first offset at which `count` bytes of both sides differ, and the state stays
pub record FindsDifference (old new : View) (a b : Side) (count : ℕ) (found : Option ℕ) : Type 0 where
  pub first : found ≡ first_difference (bytes_at old.state a count) (bytes_at old.state b count)
  pub same : new.state ≡ old.state

-- the bytes of b become the `count` bytes that a had; other bytes stay, and all else of the state
pub record TakesBytes (old new : View) (a b : Side) (count : ℕ) : Type 0 where
  pub all : length (bytes_at old.state a count) ≡ count
  pub bytes : ChangesBytes old new b.arena b.at (bytes_at old.state a count)

-- one of the two arenas isn't open to the caller, and the state stays
pub record StaysOutOf (old new : View) (a b : ArenaId) : Type 0 where
  pub shut : ¬ (IsOpen old a × IsOpen old b)
  pub same : new.state ≡ old.state
