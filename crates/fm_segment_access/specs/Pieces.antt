-- Visits that read or put one piece: bytes of an arena that lie in one word.
use Rattle.std.specs.Prelude.{◌≡◌, ℕ, ◌/◌, ◌%◌, ◌<◌, List, [], ◌∷◌, Result, Ok, Err}
use Rattle.fm_base.specs.{declared.{caller.Caller.{Caller}, arena_id.ArenaId.{ArenaId}, refusal.Refusal.{Refusal}}, Arenas.{MayUse}}
use Rattle.fm_base.specs.{Calls.{Read, Write, Fine, Found, Entry}, Visits.{Acts, entries_of, visit, Tries}, Does.{DoesEnter}}
use Rattle.fm_base_bytes.specs.Bytes.{lane, replaced}

-- one visit with one Read of the word, whose `width` bytes from the place on make v
pub record ReadsPiece (c : Caller) (id : ArenaId) (place width v : ℕ) (own : List Entry) : Type 0 where
  pub word : ℕ
  pub visits : own ≡ visit c id ((Read id (place / 8), Found word) ∷ [])
  pub value : v ≡ lane word (place % 8) width

-- Acts that put the `width` bytes of v at the place: eight bytes are one Write,
-- fewer are tries that change just these bytes
pub data PutsBytes (id : ArenaId) (place width v : ℕ) : Acts → Type 0 where
  whole : width ≡ 8 → PutsBytes id place width v ((Write id (place / 8) v, Fine) ∷ [])
  narrow : (found : ℕ) (acts : Acts) → width < 8
      → Tries id (place / 8) (λ word. replaced word (place % 8) width v) found acts
      → PutsBytes id place width v acts

-- such acts, inside the arena
pub record DoesPutInside (c : Caller) (id : ArenaId) (place width v : ℕ) (own : List Entry) : Type 0 where
  pub acts : Acts
  pub puts : PutsBytes id place width v acts
  pub entries : own ≡ entries_of c acts

-- one visit that puts the `width` bytes of v at the place
pub record PutsPiece (c : Caller) (id : ArenaId) (place width v : ℕ) (own : List Entry) : Type 0 where
  pub acts : Acts
  pub puts : PutsBytes id place width v acts
  pub visits : own ≡ visit c id acts

abbrev pub DoesGetPiece : Caller → ArenaId → ℕ → ℕ → Result ℕ Refusal → List Entry → Type 0
DoesGetPiece c id place width (Ok v) own = MayUse id c × ReadsPiece c id place width v own
DoesGetPiece c id place width (Err r) own = DoesEnter c id (Err r) own

abbrev pub DoesPutPiece : Caller → ArenaId → ℕ → ℕ → ℕ → Result (Unit {0}) Refusal → List Entry → Type 0
DoesPutPiece c id place width v (Ok u) own = MayUse id c × PutsPiece c id place width v own
DoesPutPiece c id place width v (Err r) own = DoesEnter c id (Err r) own
