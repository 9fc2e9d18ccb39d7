-- What an `Arena` learns of the calls that it hands on to a memory.
use Rattle.std.specs.Prelude.{◌≡◌, ℕ, Result, Ok, Err, IfOk}
use Rattle.fm_base.specs.{declared.{arena_id.ArenaId.{ArenaId}, refusal.Refusal.{Refusal}}, Outcomes.{Nature}, View.{View}}
use Rattle.fm_base.specs.Learnt as memory
use Rattle.fm_segment.specs.{Access.{IsKnown}, Region.{Region, region_of}}
use Rattle.fm_arena.specs.declared.arena.Arena.{Arena}

-- the name of the arena that was started
abbrev pub started : Result Arena Refusal → Result ArenaId Refusal
started (Ok arena) = Ok arena.id
started (Err r) = Err r

-- the place of the segment that was allocated
abbrev pub placed : Result Region Refusal → Result ℕ Refusal
placed (Ok r) = Ok r.first
placed (Err r) = Err r

-- of `allocate`: the segment has just the bytes that were given, is open to writes, and can be accessed
pub record AfterAllocate (nature : Nature) (old new : View) (id : ArenaId) (size align : ℕ) (result : Result Region Refusal) : Type 0 where
  pub got : memory.AfterAllocate nature old new id size align (placed result)
  pub segment : IfOk result (λ r. r ≡ region_of id r.first size)
  pub known : IfOk result (λ r. IsKnown new r)
