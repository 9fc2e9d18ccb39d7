-- What a caller inside an arena does by one call: acts, the lowest word first, and nothing else.
use Rattle.std.specs.Prelude.{◌≡◌, ℕ, ◌/◌, List, [], ◌∷◌, Result, Ok, Err, ⊤}
use Rattle.fm_base.specs.declared.{caller.Caller.{Caller}, arena_id.ArenaId.{ArenaId}}
use Rattle.fm_base.specs.declared.refusal.Refusal.{Refusal, TheVariants.{Bounds, IndexOut, Misaligned, ReadOnly, Unsupported}}
use Rattle.fm_base.specs.{Calls.{Entry}, Visits.{Acts, entries_of, reads, writes}}

-- these entries are the caller's acts, and the acts are as Do says
pub record HasActs (c : Caller) (Do : Acts → Type 0) (own : List Entry) : Type 0 where
  pub acts : Acts
  pub are : Do acts
  pub entries : own ≡ entries_of c acts

-- the acts at the place, or the refusal that came before any
abbrev pub ActsAt : {X : Type 0} → Result ℕ Refusal → (ℕ → Result X Refusal → Acts → Type 0) → Result X Refusal → Acts → Type 0
ActsAt (Ok place) Do result acts = Do place result acts
ActsAt (Err r) Do result acts = (result ≡ Err r) × (acts ≡ [])

-- one Read of the word at a place, which finds the answer
abbrev pub GetsWord : ArenaId → ℕ → Result ℕ Refusal → Acts → Type 0
GetsWord id place (Ok v) acts = acts ≡ reads id (place / 8) (v ∷ [])
GetsWord id place (Err r) acts = ⊥

-- a Read of each word from there on, which finds these
abbrev pub GetsWords : ArenaId → List ℕ → ℕ → Result (Unit {0}) Refusal → Acts → Type 0
GetsWords id words place (Ok u) acts = acts ≡ reads id (place / 8) words
GetsWords id words place (Err r) acts = ⊥

-- a Write of each of these words
abbrev pub PutsWords : ArenaId → List ℕ → ℕ → Result (Unit {0}) Refusal → Acts → Type 0
PutsWords id words place (Ok u) acts = acts ≡ writes id (place / 8) words
PutsWords id words place (Err r) acts = ⊥

-- refusals that come of the arguments alone: inside a visit no arena is found closed
abbrev pub IsOfArguments : Refusal → Type 0
IsOfArguments Bounds = ⊤
IsOfArguments Misaligned = ⊤
IsOfArguments ReadOnly = ⊤
IsOfArguments Unsupported = ⊤
IsOfArguments (IndexOut k) = ⊤
IsOfArguments r = ⊥
