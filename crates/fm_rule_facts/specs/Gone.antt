-- What a find of the word 0 of slot bits says of each slot ever after.
use Rattle.std.specs.{Prelude.{◌≡◌, ◌≢◌, ◌⊎◌, ℕ, ◌<◌, true, List, [], length, Option, Some}, Int.{bit_at}}
use Rattle.fm_words.specs.declared.shape.Shape.{Shape}
use Rattle.fm_base.specs.{declared.{caller.Caller.{Caller}, arena_id.ArenaId.{ArenaId}}, Arenas.{has_arena, owner_of}, Calls.{Entry}, Histories.{state_after}}
use Rattle.fm_base.specs.Finds.{Find, Gathered, is_slot, is_page}
use Rattle.fm_base_machine.specs.Functions.{Stage, Fresh}
use Rattle.fm_rule_facts.specs.{Views.{View, In, Begins, IsBusyIn, FewLeft, all_gathered, limit_of}, PoolWords.{Session, free, PoolWords}}

-- the caller took the slot to open an arena there, and hasn't yet
pub record IsTakenBy (z : Shape) (bits : ℕ) (sessions : ℕ → Session) (takers : ℕ → Option Caller) (s : ℕ) (k : Caller) : Type 0 where
  pub taker : takers s ≡ Some k
  pub generation : ℕ
  pub session : sessions s ≡ free generation
  pub left : generation < z.generations
  pub bit : bit_at bits s ≡ 0

-- the caller opened an arena of the slot
pub record OpenedBy (life : ArenaId → Stage) (s : ℕ) (k : Caller) : Type 0 where
  pub arena : ArenaId
  pub in_slot : arena.slot ≡ s
  pub opened : life arena ≢ Fresh
  pub owner : owner_of arena ≡ k

-- an arena of the slot was opened: before those entries ended, or by another caller than c
pub record OpenedApart (limit : ℕ) (before : List Entry) (life : ArenaId → Stage) (c : Caller) (s : ℕ) : Type 0 where
  pub arena : ArenaId
  pub in_slot : arena.slot ≡ s
  pub opened : life arena ≢ Fresh
  pub apart : (has_arena (state_after limit [] before) arena ≡ true) ⊎ (owner_of arena ≢ c)

-- so the slot couldn't be taken by c
abbrev pub IsGone : (z : Shape) (before : List Entry) (m : PoolWords) (taker : ℕ → Option Caller) (life : ArenaId → Stage) (c : Caller) (s : ℕ) → Type 0
IsGone z before m taker life c s = OpenedApart (limit_of z) before life c s ⊎ ((k : Caller) × IsTakenBy z m.bits m.sessions taker s k × (k ≢ c))

-- c found no slot when it had seen the first entries of h
pub record HasFound (z : Shape) (h : List Entry) (m : PoolWords) (taker : ℕ → Option Caller) (life : ArenaId → Stage) (c : Caller) (f : Find) : Type 0 where
  pub before : List Entry
  pub begins : Begins before h
  pub long : length before ≡ f.seen
  pub gone : (s : ℕ) → s < z.slots → IsGone z before m taker life c s
  pub busy : f.clear ≡ true → (s : ℕ) → s < z.slots → IsBusyIn z.generations (state_after (limit_of z) [] before) s

-- what a find of c says for good
pub record FoundBy (z : Shape) (h : List Entry) (m : PoolWords) (taker : ℕ → Option Caller) (life : ArenaId → Stage) (c : Caller) (f : Find) : Type 0 where
  pub slot : is_slot f.step ≡ true → f.found ≡ 0 → HasFound z h m taker life c f
  pub page : is_page f.step ≡ true → f.found ≡ 0 → FewLeft z h f

-- what a view has found, and those that are gathered into it
pub record IsFounded (z : Shape) (h : List Entry) (m : PoolWords) (taker : ℕ → Option Caller) (life : ArenaId → Stage) (v : View) : Type 0 where
  pub finds : (f : Find) → In f v.finds → FoundBy z h m taker life v.caller f
  pub theirs : (g : Gathered) → In g (all_gathered v) → (f : Find) → In f g.finds → FoundBy z h m taker life g.caller f
