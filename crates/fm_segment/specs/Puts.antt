-- What putting bytes through a segment does (`copy` from an array, of `MemorySegment`), and why it is refused.
use Rattle.std.specs.Prelude.{◌≡◌, ℕ, ◌+◌, ◌<◌, ◌≤◌, ◌&&◌, true, false, nat_lt, nat_le, Result, Ok, Err, if◌then◌else◌, List, length}
use Rattle.fm_base.specs.{declared.{caller.Caller.{Caller}, refusal.Refusal.{Refusal, TheVariants.{ReadOnly, Bounds, WrongThread, Closed}}}, Arenas.{MayUse}}
use Rattle.fm_base.specs.Calls.{Entry}
use Rattle.fm_segment_access.specs.Runs.{DoesPutAll}
use Rattle.fm_segment.specs.{Fills.{DoesAfter}, Region.{Region}}

-- `n` bytes at an offset
module _ (r : Region) (offset n : ℕ) where
  -- the first refusal before the arena is entered
  abbrev pub checked_put : Result (Unit {0}) Refusal
  checked_put = if nat_lt 0 n && r.read_only then Err ReadOnly else (if nat_le (offset + n) r.size then Ok tt else Err Bounds)

  -- the bytes, of which there is one, may be put
  pub record MayPutAt : Type 0 where
    pub some : 0 < n
    pub writable : r.read_only ≡ false
    pub fit : offset + n ≤ r.size

  abbrev pub PutCause : Caller → Refusal → Type 0
  PutCause c ReadOnly = (0 < n) × (r.read_only ≡ true)
  PutCause c Bounds = (0 < n → r.read_only ≡ false) × ¬ (offset + n ≤ r.size)
  PutCause c WrongThread = MayPutAt × ¬ (MayUse r.arena c)
  PutCause c Closed = MayPutAt × MayUse r.arena c
  PutCause c e = ⊥

abbrev pub DoesPutSegment : Caller → Region → ℕ → List ℕ → Result (Unit {0}) Refusal → List Entry → Type 0
DoesPutSegment c r offset bytes =
    DoesAfter (checked_put r offset (length bytes)) (DoesPutAll c r.arena (r.first + offset) bytes)
