-- What a copy between segments does (`copy` and `copyFrom` of `MemorySegment`, Java SE 22), and why it is refused.
use Rattle.std.specs.Prelude.{◌≡◌, ℕ, ◌+◌, ◌<◌, ◌≤◌, ◌&&◌, true, false, nat_lt, nat_le, Result, Ok, Err, if◌then◌else◌, List}
use Rattle.fm_base.specs.declared.{caller.Caller.{Caller}, arena_id.ArenaId.{ArenaId}, refusal.Refusal.{Refusal}}
use Rattle.fm_base.specs.{declared.refusal.Refusal.TheVariants.{ReadOnly, Bounds, WrongThread, Closed}, Arenas.{MayUse}, Calls.{Entry}}
use Rattle.fm_segment_copies.specs.{Sides.{side}, Copies.{DoesCopy}}
use Rattle.fm_segment.specs.{Fills.{DoesAfter}, Region.{Region}}

-- the caller may use both arenas
abbrev pub MayUseArenas : ArenaId → ArenaId → Caller → Type 0
MayUseArenas a b c = MayUse a c × MayUse b c

-- `n` bytes from an offset of `src`, to an offset of `dst`
module _ (src : Region) (src_at : ℕ) (dst : Region) (dst_at n : ℕ) where
  -- the first refusal before an arena is entered
  abbrev pub checked_copy : Result (Unit {0}) Refusal
  checked_copy =
      if nat_lt 0 n && dst.read_only then Err ReadOnly
      else (if nat_le (src_at + n) src.size && nat_le (dst_at + n) dst.size then Ok tt else Err Bounds)

  abbrev pub DoesCopySegment : Caller → Result (Unit {0}) Refusal → List Entry → Type 0
  DoesCopySegment c result own =
      DoesAfter checked_copy (DoesCopy c (side src.arena (src.first + src_at)) (side dst.arena (dst.first + dst_at)) n) result own

  -- both ranges end in their segments
  pub record FitBoth : Type 0 where
    pub source : src_at + n ≤ src.size
    pub target : dst_at + n ≤ dst.size

  -- the bytes of both ranges, of which there is one, may be copied
  pub record MayCopy : Type 0 where
    pub some : 0 < n
    pub writable : dst.read_only ≡ false
    pub fit : FitBoth

  abbrev pub CopyCause : Caller → Refusal → Type 0
  CopyCause c ReadOnly = (0 < n) × (dst.read_only ≡ true)
  CopyCause c Bounds = (0 < n → dst.read_only ≡ false) × ¬ FitBoth
  CopyCause c WrongThread = MayCopy × ¬ (MayUseArenas src.arena dst.arena c)
  CopyCause c Closed = MayCopy × MayUseArenas src.arena dst.arena c
  CopyCause c e = ⊥
