-- Where a pass finds no page for an allocation.
use Rattle.std.specs.Prelude.{◌≡◌, ◌++◌, ℕ, true, List, [], Result, Err}
use Rattle.fm_base.specs.{declared.{arena_id.ArenaId.{ArenaId}, refusal.Refusal.{Refusal, TheVariants.{NoRoom, PoolFull}}}, Calls.{Entry}}
use Rattle.fm_base.specs.Histories.{made_by}
use Rattle.fm_base.specs.Learnt as memory
use Rattle.fm_rule_facts.specs.Views.{View}
use Rattle.fm_gate.specs.Pages.{AllocatesSo, FoundNoPage, FullExactly, LendsNone, LentBesides}
use Rattle.fm_rule_calls.specs.Told.{view_of_pass}
use Rattle.fm_segment.specs.Region.{Region}
use Rattle.fm_arena.specs.Arenas as arena
use Rattle.fm_arena.specs.{Opening.{HasNoSlot}, Shares.{nature_of_shared}}

-- what each memory teaches of allocating, of a pass
abbrev pub Allocates : View → View → ArenaId → ℕ → ℕ → Result ℕ Refusal → Type 0
Allocates old new id size align result = memory.AfterAllocate nature_of_shared (view_of_pass old) (view_of_pass new) id size align result

-- and each arena, of the segment
abbrev pub AllocatesSegment : View → View → ArenaId → ℕ → ℕ → Result Region Refusal → Type 0
AllocatesSegment old new id size align result = arena.AfterAllocate nature_of_shared (view_of_pass old) (view_of_pass new) id size align result

-- A pass that is known to be whole, has no close under way and no slot in its hand is refused with PoolFull exactly where fewer pages aren't lent than parts of
-- the range have none; any pass only where each word of page bits was 0 at a step, and a part of the range had no page after its last Lend
pub record AllocatesExactly (old new : View) (id : ArenaId) (size align : ℕ) (result : Result ℕ Refusal) : Type 0 where
  pub exact : old.whole ≡ true → old.closes ≡ [] → HasNoSlot old → FullExactly old id size align result
  pub found : result ≡ Err PoolFull → FoundNoPage old new id size align
  -- it enters, lends pages for parts of its range alone, allocates, and leaves
  pub lends : (more : List Entry) → new.seen ≡ old.seen ++ more → AllocatesSo old new id size align result (made_by old.caller more)
  -- of a pass that is known to be whole, nothing else is lent than before but parts of the range that it knows
  pub lent : old.whole ≡ true → LentBesides old new id size align
  -- and it lends none where there is no room
  pub no_room : (more : List Entry) → new.seen ≡ old.seen ++ more → old.whole ≡ true → (given : ℕ) → result ≡ Err (NoRoom given)
      → LendsNone old.caller id size align given (made_by old.caller more)
