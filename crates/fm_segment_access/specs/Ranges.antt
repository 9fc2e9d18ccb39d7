-- Calls on a range of bytes of an arena: a run of visits, one a piece, the lowest place first.
use Rattle.std.specs.Prelude.{◌≡◌, ℕ, ◌+◌, ◌<◌, Bool, true, false, List, [], ◌++◌, length, take, drop, replicate, MatchBool, ◌==◌, Option, Some, None, Result, Ok, Err}
use Rattle.fm_base.specs.declared.{caller.Caller.{Caller}, arena_id.ArenaId.{ArenaId}, refusal.Refusal.{Refusal, TheVariants.{Closed, WrongThread}}}
use Rattle.fm_base.specs.{Arenas.{MayUse}, Calls.{Entry}, Visits.{refused_visit, piece_width, Run}}
use Rattle.fm_base_bytes.specs.Bytes.{bytes_of, number_of}
use Rattle.fm_segment_access.specs.Pieces.{ReadsPiece, PutsPiece}

-- The refusals of a run of visits, in the order of the checks; `Stops` is the run up to a visit that was refused
abbrev pub DoesRefuse : Caller → ArenaId → (List Entry → Type 0) → Refusal → List Entry → Type 0
DoesRefuse c id Stops WrongThread own = ¬ (MayUse id c) × (own ≡ [])
DoesRefuse c id Stops Closed own = MayUse id c × Stops own
DoesRefuse c id Stops r own = ⊥

-- ---- reading a range

-- the next place to read, and the bytes that were read
pub record Reading : Type 0 where
  pub at : ℕ
  pub bytes : List ℕ

-- one piece more was read
pub record ReadsOn (c : Caller) (id : ArenaId) (end : ℕ) (x : Reading) (own : List Entry) (y : Reading) : Type 0 where
  pub v : ℕ
  pub more : x.at < end
  pub piece : ReadsPiece c id x.at (piece_width x.at end) v own
  pub at : y.at ≡ x.at + piece_width x.at end
  pub bytes : y.bytes ≡ x.bytes ++ bytes_of (piece_width x.at end) v

-- Some bytes: all are read. None: the next visit was refused
abbrev pub EndsReading : Caller → ArenaId → ℕ → Reading → List Entry → Option (List ℕ) → Type 0
EndsReading c id end x own (Some bytes) = (x.at ≡ end) × (bytes ≡ x.bytes) × (own ≡ [])
EndsReading c id end x own None = (x.at < end) × (own ≡ refused_visit c id)

abbrev pub ReadsRange : Caller → ArenaId → ℕ → ℕ → List Entry → Option (List ℕ) → Type 0
ReadsRange c id place end own answer =
    Run (ReadsOn c id end) (EndsReading c id end) (record { at = place; bytes = [] }) own answer

-- the visits read these bytes, which mean x
pub record ReadsAs {X : Type 0} (mean : List ℕ → X) (c : Caller) (id : ArenaId) (place width : ℕ) (x : X) (own : List Entry) : Type 0 where
  pub bytes : List ℕ
  pub visits : ReadsRange c id place (place + width) own (Some bytes)
  pub value : x ≡ mean bytes

abbrev pub DoesRead : {X : Type 0} → (List ℕ → X) → Caller → ArenaId → ℕ → ℕ → Result X Refusal → List Entry → Type 0
DoesRead mean c id place width (Ok x) own = MayUse id c × ReadsAs mean c id place width x own
DoesRead mean c id place width (Err r) own =
    DoesRefuse c id (λ es. ReadsRange c id place (place + width) es None) r own

-- the number that they make
abbrev pub DoesGet : Caller → ArenaId → ℕ → ℕ → Result ℕ Refusal → List Entry → Type 0
DoesGet = DoesRead number_of

-- ---- putting bytes

-- the next place to write, and the bytes that are left
pub record Putting : Type 0 where
  pub at : ℕ
  pub bytes : List ℕ

abbrev pub putting : ℕ → List ℕ → Putting
putting at bytes = record { at = at; bytes = bytes }

-- the width of the next piece
abbrev pub next_width : Putting → ℕ
next_width x = piece_width x.at (x.at + length x.bytes)

-- one piece more was put
pub record PutsOn (c : Caller) (id : ArenaId) (x : Putting) (own : List Entry) (y : Putting) : Type 0 where
  pub more : 0 < length x.bytes
  pub piece : PutsPiece c id x.at (next_width x) (number_of (take (next_width x) x.bytes)) own
  pub at : y.at ≡ x.at + next_width x
  pub bytes : y.bytes ≡ drop (next_width x) x.bytes

-- true: all are put. false: the next visit was refused
abbrev pub EndsPutting : Caller → ArenaId → Putting → List Entry → Bool → Type 0
EndsPutting c id x own true = (x.bytes ≡ []) × (own ≡ [])
EndsPutting c id x own false = (0 < length x.bytes) × (own ≡ refused_visit c id)

-- these bytes, one or more, are put from the place on by steps of this kind
module _ (Step : Caller → ArenaId → Putting → List Entry → Putting → Type 0) where
  abbrev pub PutsBy : Caller → ArenaId → ℕ → List ℕ → List Entry → Bool → Type 0
  PutsBy c id place bytes own done = Run (Step c id) (EndsPutting c id) (putting place bytes) own done

  abbrev pub DoesPutBy : Caller → ArenaId → ℕ → List ℕ → Result (Unit {0}) Refusal → List Entry → Type 0
  DoesPutBy c id place bytes (Ok u) own = MayUse id c × PutsBy c id place bytes own true
  DoesPutBy c id place bytes (Err r) own = DoesRefuse c id (λ es. PutsBy c id place bytes es false) r own

-- piece by piece
abbrev pub DoesPut : Caller → ArenaId → ℕ → List ℕ → Result (Unit {0}) Refusal → List Entry → Type 0
DoesPut = DoesPutBy PutsOn

-- a call that does nothing where it has no byte to put, of so many
abbrev pub DoesSome : ℕ → (Result (Unit {0}) Refusal → List Entry → Type 0) → Result (Unit {0}) Refusal → List Entry → Type 0
DoesSome n Does result own = MatchBool (n == 0) ((result ≡ Ok tt) × (own ≡ [])) (Does result own)

-- this byte is put at each place of the range, which may be empty
abbrev pub DoesFill : Caller → ArenaId → ℕ → ℕ → ℕ → Result (Unit {0}) Refusal → List Entry → Type 0
DoesFill c id place size byte = DoesSome size (DoesPut c id place (replicate size byte))
