-- What a pass knows of the pages of arenas.
use Rattle.std.specs.Prelude.{ℕ, ◌-◌, ◌==◌, Bool, true, false, if◌then◌else◌, List, [], ◌∷◌}
use Rattle.fm_base.specs.declared.arena_id.ArenaId.{ArenaId}

-- the page that a map word named, by the part of the arena
pub record Mapping : Type 0 where
  pub part : ℕ
  pub page : ℕ

abbrev pub mapping_of : ℕ → ℕ → Mapping
mapping_of i p = record { part = i; page = p }

-- what was read in a map word that isn't 0
abbrev pub reads_after : (i x : ℕ) → List Mapping → List Mapping
reads_after i x ms = if x == 0 then ms else mapping_of i (x - 1) ∷ ms

-- after an exchange of 0 for the page that found this word
abbrev pub reads_mapped : (i p x : ℕ) → List Mapping → List Mapping
reads_mapped i p x ms = if x == 0 then mapping_of i p ∷ ms else mapping_of i (x - 1) ∷ ms

-- the page is in the hand still where another one had its place
abbrev pub pages_mapped : (x : ℕ) → List ℕ → List ℕ
pages_mapped x ps = if x == 0 then [] else ps

abbrev pub pages_taken : Bool → (page : ℕ) → List ℕ → List ℕ
pages_taken true page ps = page ∷ ps
pages_taken false page ps = ps

-- what a sweep has of the part of the arena that is next
pub data Swept : Type 0 where
  unread : Swept
  -- its map word names the page
  named : (arena : ArenaId) (part page : ℕ) → Swept
  -- its map word is 0, and so are so many words of the page
  wiping : (arena : ArenaId) (part page words : ℕ) → Swept

abbrev pub swept_read : ArenaId → (i x : ℕ) → Swept
swept_read a i x = if x == 0 then unread else named a i (x - 1)
