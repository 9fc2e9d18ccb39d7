-- What filling a segment does (`fill` of `MemorySegment`, Java SE 22), and why it is refused.
use Rattle.std.specs.Prelude.{◌≡◌, ℕ, ◌<◌, ◌&&◌, nat_lt, Result, Ok, Err, if◌then◌else◌, List, []}
use Rattle.fm_base.specs.{declared.{caller.Caller.{Caller}, refusal.Refusal.{Refusal, TheVariants.{ReadOnly}}}, Calls.{Entry}}
use Rattle.fm_segment_access.specs.{Found.{UseCause, WriteCause}, Ranges.{DoesFill}}
use Rattle.fm_segment.specs.Region.{Region}

-- a write of so many bytes is refused where there is a byte, and the segment is read-only
abbrev pub checked_write : ℕ → Region → Result (Unit {0}) Refusal
checked_write n r = if nat_lt 0 n && r.read_only then Err ReadOnly else Ok tt

-- what a call does after its checks: refused by them it makes no entry, else it does as `Does` says
abbrev pub DoesAfter : Result (Unit {0}) Refusal → (Result (Unit {0}) Refusal → List Entry → Type 0) → Result (Unit {0}) Refusal → List Entry → Type 0
DoesAfter (Err r) Does result own = (result ≡ Err r) × (own ≡ [])
DoesAfter (Ok u) Does result own = Does result own

-- each byte is put to this one
abbrev pub DoesFillSegment : Caller → Region → ℕ → Result (Unit {0}) Refusal → List Entry → Type 0
DoesFillSegment c r byte result own =
    DoesAfter (checked_write r.size r) (DoesFill c r.arena r.first r.size byte) result own

abbrev pub FillCause : Region → Caller → Refusal → Type 0
FillCause r c e = (0 < r.size) × WriteCause r.read_only (UseCause r.arena c) e
