-- Segments as contracts see them: a region is a run of bytes of one arena (`MemorySegment`, Java SE 22).
use Rattle.std.specs.Prelude.{ℕ, ◌+◌, ◌≤◌, Bool, true, false}
use Rattle.fm_base.specs.declared.arena_id.ArenaId.{ArenaId}
use Rattle.fm_layout.specs.WellFormed.{limit}

pub record Region : Type 0 where
  pub arena : ArenaId
  -- the place of its first byte
  pub first : ℕ
  pub size : ℕ
  pub read_only : Bool

-- so many bytes from this place on end by place 2^40
abbrev pub EndsByLimit : ℕ → ℕ → Type 0
EndsByLimit first size = first + size ≤ limit

-- open to writes
abbrev pub region_of : ArenaId → ℕ → ℕ → Region
region_of arena first size = record { arena = arena; first = first; size = size; read_only = false }

-- so many of its bytes from an offset on
abbrev pub part_of : ℕ → ℕ → Region → Region
part_of offset size r =
    record { arena = r.arena; first = r.first + offset; size = size; read_only = r.read_only }

abbrev pub read_only_of : Region → Region
read_only_of r = record { arena = r.arena; first = r.first; size = r.size; read_only = true }
