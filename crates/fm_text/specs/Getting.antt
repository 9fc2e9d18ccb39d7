-- What getting a text from a segment does (`getString` of `MemorySegment`, Java SE 22): pieces are read, the lowest place
-- first, up to the first one with a byte 0.
use Rattle.std.specs.Prelude.{◌≡◌, ℕ, ◌+◌, ◌<◌, ◌≤◌, None, List, [], drop, Result, Ok, Err, IfErr, ⊤}
use Rattle.fm_base.specs.declared.{caller.Caller.{Caller}, arena_id.ArenaId.{ArenaId}, refusal.Refusal.{Refusal}}
use Rattle.fm_base.specs.{declared.refusal.Refusal.TheVariants.{Bounds, NotText, NoZero, WrongThread, Closed, Memory}, Arenas.{MayUse}, Calls.{Entry}}
use Rattle.fm_base.specs.{Outcomes.{Lasts}, View.{View, Did, IsByItself}, Visits.{refused_visit, Run}}
use Rattle.fm_segment_access.specs.{Alone.{IsOpen}, Ranges.{Reading, ReadsOn}}
use Rattle.fm_segment.specs.{Access.{IsKnown}, Alone.{bytes_of_region}, Region.{Region}, Slices.{rest_of}}
use Rattle.fm_text.specs.Texts.{zero_at, IsTextOf}

-- ---- a range

-- one piece more was read, since no byte was 0 yet
pub record LooksOn (c : Caller) (id : ArenaId) (end : ℕ) (x : Reading) (own : List Entry) (y : Reading) : Type 0 where
  pub none : zero_at x.bytes ≡ None
  pub reads : ReadsOn c id end x own y

-- Where it ends: at a visit that was refused, for want of memory, at the end of the range with no 0, or with a 0 in the last piece
abbrev pub EndsLooking : Caller → ArenaId → ℕ → Reading → List Entry → Result (List ℕ) Refusal → Type 0
EndsLooking c id end x own (Err Closed) = (zero_at x.bytes ≡ None) × (x.at < end) × (own ≡ refused_visit c id)
EndsLooking c id end x own (Err Memory) = own ≡ []
EndsLooking c id end x own (Err NoZero) = (zero_at x.bytes ≡ None) × (x.at ≡ end) × (own ≡ [])
EndsLooking c id end x own result = IsTextOf x.bytes result × (own ≡ [])

abbrev pub Looks : Caller → ArenaId → ℕ → ℕ → Result (List ℕ) Refusal → List Entry → Type 0
Looks c id place end result own = Run (LooksOn c id end) (EndsLooking c id end) (record { at = place; bytes = [] }) own result

-- Where there is no byte it makes no visit. Want of memory may come after any visit
abbrev pub DoesLook : Caller → ArenaId → ℕ → ℕ → Result (List ℕ) Refusal → List Entry → Type 0
DoesLook c id place end (Err WrongThread) own = (place < end) × ¬ (MayUse id c) × (own ≡ [])
DoesLook c id place end (Err Memory) own = (place < end) × MayUse id c × Looks c id place end (Err Memory) own
DoesLook c id place end result own = (place < end → MayUse id c) × Looks c id place end result own

-- ---- a segment

-- the text in these bytes of the segment, or the refusal that came before
abbrev pub DoesLookIn : Caller → Result Region Refusal → Result (List ℕ) Refusal → List Entry → Type 0
DoesLookIn c (Ok r) result own = DoesLook c r.arena r.first (r.first + r.size) result own
DoesLookIn c (Err e) result own = (result ≡ Err e) × (own ≡ [])

abbrev pub DoesGetText : Caller → Region → ℕ → Result (List ℕ) Refusal → List Entry → Type 0
DoesGetText c r offset = DoesLookIn c (rest_of offset r)

-- why it is refused
abbrev pub TextCause : Region → ℕ → Caller → Refusal → Type 0
TextCause r offset c Bounds = r.size < offset
TextCause r offset c WrongThread = (offset < r.size) × ¬ (MayUse r.arena c)
TextCause r offset c Closed = (offset < r.size) × MayUse r.arena c
TextCause r offset c NoZero = (offset ≤ r.size) × (offset < r.size → MayUse r.arena c)
TextCause r offset c (NotText at) = (offset < r.size) × MayUse r.arena c
TextCause r offset c Memory = (offset < r.size) × MayUse r.arena c
TextCause r offset c e = ⊥

-- What the only caller gets: the text of all these bytes, whichever refuses it. It is shut out where the arena isn't open to it
abbrev pub Tells : View → ArenaId → List ℕ → Result (List ℕ) Refusal → Type 0
Tells v id bytes (Err Bounds) = ⊤
Tells v id bytes (Err WrongThread) = ¬ (IsOpen v id)
Tells v id bytes (Err Closed) = ¬ (IsOpen v id)
Tells v id bytes (Err Memory) = ⊤
Tells v id bytes result = IsTextOf bytes result

-- of `get_text`
pub record AfterGetText (old new : View) (r : Region) (offset : ℕ) (result : Result (List ℕ) Refusal) : Type 0 where
  -- the caller's own acts, and the answer
  pub did : Did old new (DoesGetText old.caller r offset result)
  -- why it is refused, the first cause that applies; `did` and `alone` say of which bytes
  pub refused : IfErr result (TextCause r offset old.caller)
  -- what is found where the caller is by itself
  pub alone : IsByItself old → Tells old r.arena (drop offset (bytes_of_region old.state r)) result
  -- and then it changes nothing
  pub same : IsByItself old → new.state ≡ old.state
  pub outside : new.inside ≡ None
  pub lasts : Lasts old new
  -- the segment is known still
  pub known : IsKnown new r
