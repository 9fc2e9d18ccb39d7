-- What a type of memory may answer, and what stands after a call that was answered so.
use Rattle.std.specs.Prelude.{◌≡◌, ℕ, ◌+◌, ◌%◌, ◌≤◌, Bool, true, false, IsTrue, Option, Some, None, Result, Ok, Err, ⊤}
use Rattle.fm_base.specs.{declared.{arena_id.ArenaId.{ArenaId}, refusal.Refusal.{Refusal, TheVariants.{Memory, NoSlot, PoolFull}}}, Arenas.{has_arena}}
use Rattle.fm_base.specs.{Finds.{FindStep, FoundNothing}, View.{View, Told, given_in}}

-- constants of a type of memory
pub record Nature : Type 0 where
  -- no other caller exists
  pub alone : Bool
  -- these refusals may come
  pub memory : Bool
  pub no_slot : Bool
  pub pool_full : Bool

abbrev pub MayRefuse : Nature → Refusal → Type 0
MayRefuse nature Memory = IsTrue nature.memory
MayRefuse nature NoSlot = IsTrue nature.no_slot
MayRefuse nature PoolFull = IsTrue nature.pool_full
MayRefuse nature r = ⊤

-- a refusal that the type never gives doesn't come
abbrev pub MayCome : {X : Type 0} → Nature → Result X Refusal → Type 0
MayCome nature (Ok x) = ⊤
MayCome nature (Err r) = MayRefuse nature r

-- where finds are told, a step of this kind found nothing free in this call
abbrev pub FoundNoneFree : (FindStep → Bool) → Option Told → Option Told → Type 0
FoundNoneFree is_step (Some t) (Some u) = FoundNothing is_step t.finds u.finds
FoundNoneFree is_step None u = ⊤
FoundNoneFree is_step (Some t) None = ⊤

-- the arena is known now, and wasn't before
pub record IsNew (old new : View) (id : ArenaId) : Type 0 where
  pub unknown : has_arena old.state id ≡ false
  pub known : has_arena new.state id ≡ true

-- these bytes were not given before, and are given now
pub record Gives (old new : View) (id : ArenaId) (size align place : ℕ) : Type 0 where
  pub aligned : place % align ≡ 0
  pub unused : given_in old id ≤ place
  pub given : place + size ≤ given_in new id
  pub within : place + size ≤ old.limit

-- What was known and given stays so, and the memory's constants stay
pub record Lasts (old new : View) : Type 0 where
  pub known : (id : ArenaId) → has_arena old.state id ≡ true → has_arena new.state id ≡ true
  pub given : (id : ArenaId) → given_in old id ≤ given_in new id
  pub limit : new.limit ≡ old.limit
  pub caller : new.caller ≡ old.caller
