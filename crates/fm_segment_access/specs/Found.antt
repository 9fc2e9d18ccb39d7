-- Accesses at a place that is found first: what they do, and why they are refused.
use Rattle.std.specs.Prelude.{◌≡◌, ℕ, ◌+◌, ◌%◌, ◌≤◌, Bool, true, false, List, [], Result, Ok, Err, if◌then◌else◌, nat_eq, nat_le}
use Rattle.fm_base.specs.declared.{caller.Caller.{Caller}, arena_id.ArenaId.{ArenaId}, refusal.Refusal.{Refusal}}
use Rattle.fm_base.specs.{declared.refusal.Refusal.TheVariants.{Bounds, Misaligned, ReadOnly, Unsupported, WrongThread, Closed}, Arenas.{MayUse}, Calls.{Entry}}
use Rattle.fm_base.specs.View.{View}
use Rattle.fm_segment_access.specs.Alone.{StaysOut}

-- the call at the place, or the refusal that came before it
abbrev pub DoesAt : {X : Type 0} → Result ℕ Refusal → (ℕ → Result X Refusal → List Entry → Type 0) → Result X Refusal → List Entry → Type 0
DoesAt (Err r) Does result own = (result ≡ Err r) × (own ≡ [])
DoesAt (Ok place) Does result own = Does place result own

-- Why a call by its only caller that was to go to this place, or finds none, is refused: the arena isn't open to the
-- caller, or the arguments are at fault. The state stays
abbrev pub StaysOutOf : View → View → ArenaId → Result ℕ Refusal → Type 0
StaysOutOf old new id (Ok place) = StaysOut old new id
StaysOutOf old new id (Err r) = new.state ≡ old.state

-- ---- why a refusal comes, the first cause that applies

-- at the arena
abbrev pub UseCause : ArenaId → Caller → Refusal → Type 0
UseCause id c WrongThread = ¬ (MayUse id c)
UseCause id c Closed = MayUse id c
UseCause id c e = ⊥

-- a write asks first whether the segment is read-only
abbrev pub WriteCause : Bool → (Refusal → Type 0) → Refusal → Type 0
WriteCause read_only Cause ReadOnly = read_only ≡ true
WriteCause read_only Cause e = (read_only ≡ false) × Cause e

-- before all else, whether the call works on the value at all
abbrev pub SupportCause : Bool → (Refusal → Type 0) → Refusal → Type 0
SupportCause supported Cause Unsupported = supported ≡ false
SupportCause supported Cause e = (supported ≡ true) × Cause e

-- `size` bytes at a multiple of `align`, at an offset in the `room` bytes from the place `first` on
module _ (offset size align first room : ℕ) where
  abbrev pub IsWithin : Type 0
  IsWithin = offset + size ≤ room

  abbrev pub IsEven : Type 0
  IsEven = (first + offset) % align ≡ 0

  -- an answer for bytes that are so
  abbrev pub if_placed : Result ℕ Refusal → Result ℕ Refusal
  if_placed found =
      if nat_le (offset + size) room
      then (if nat_eq ((first + offset) % align) 0 then found else Err Misaligned)
      else Err Bounds

  abbrev pub PlaceCause : ArenaId → Caller → Refusal → Type 0
  PlaceCause id c Bounds = ¬ IsWithin
  PlaceCause id c Misaligned = IsWithin × ¬ IsEven
  PlaceCause id c WrongThread = IsWithin × IsEven × ¬ (MayUse id c)
  PlaceCause id c Closed = IsWithin × IsEven × MayUse id c
  PlaceCause id c e = ⊥
