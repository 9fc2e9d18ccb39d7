-- What contracts see of a `Mono`, and the machine's arena that each of its arenas is.
use Rattle.std.specs.Prelude.{◌≡◌, ℕ, zero, suc, ◌+◌, ◌-◌, ◌^◌, ◌<◌, ◌≤◌, Bool, true, false, if◌then◌else◌, List, [], ◌∷◌, ◌++◌, Option, Some, None, length, replicate, slice_get, Result, Ok, Err, vec_capacity}
use Rattle.fm_base.specs.declared.{arena_id.ArenaId.{ArenaId}, kind.Kind.TheVariants.{Global}, refusal.Refusal.{Refusal}}
use Rattle.fm_base.specs.Arenas.{owner_of, only_caller, State, Arena, Alive, Ended, MayUse, same_id, arena_of, has_arena, changed, word_in, IsUnderWay}
use Rattle.fm_base.specs.Calls.{Allocate, Given, NoRoom}
use Rattle.fm_base.specs.{Machine.{words_within, rounded_up, reply_to, given_up_to, written, left, IsUnderWayNowhere, MayReach, MayPut}, View.{View}}
use Rattle.fm_base.specs.Outcomes.{Nature}
use Rattle.fm_base.specs.declared.refusal.Refusal.TheVariants as refusal
use Rattle.fm_mono.specs.declared.arena.MonoArena.{MonoArena}

-- the arenas of one thread
pub record Arenas : Type 0 where
  -- how many bytes an arena can give
  pub limit : ℕ
  pub state : State
  -- the arena that was entered, or none
  pub inside : Option ArenaId

-- alone, as caller 0, and telling nothing
abbrev pub view_of : Arenas → View
view_of m = record { limit = m.limit; state = m.state; caller = only_caller; inside = m.inside; alone = true; told = None }

-- want of memory and NoSlot may come, PoolFull never
abbrev pub nature_of_mono : Nature
nature_of_mono = record { alone = true; memory = true; no_slot = true; pool_full = false }

abbrev pub most_arenas : ℕ
most_arenas = 4294967295

-- ---- the machine's arena

abbrev pub is_inside : Option ArenaId → ArenaId → Bool
is_inside None id = false
is_inside (Some a) id = same_id id a

-- the words so far, and zeros
abbrev pub filled : ℕ → List ℕ → List ℕ
filled n words = words ++ replicate (n - length words) 0

abbrev pub shown : ℕ → Option ArenaId → MonoArena → Arena
shown limit inside o = record {
  id = o.id;
  life = (if o.is_alive then Alive else Ended);
  words = filled (words_within limit) (if o.is_alive then o.words.items else o.past.numbers);
  given = o.given;
  holds = 0;
  under_way = (if is_inside inside o.id then only_caller ∷ [] else []);
}

abbrev pub shown_all : ℕ → Option ArenaId → List MonoArena → State
shown_all limit inside [] = []
shown_all limit inside (o ∷ os) = shown limit inside o ∷ shown_all limit inside os

-- the arenas that are seen
abbrev pub seen_of : ℕ → Option ArenaId → List MonoArena → Arenas
seen_of limit inside os = record { limit = limit; state = shown_all limit inside os; inside = inside }

-- the name of the arena at a place; of no arena where none is there
abbrev pub name_at : ℕ → List MonoArena → ArenaId
name_at place [] = record { slot = 0; generation = 0; kind = Global; owner = 0; term = 0 }
name_at zero (o ∷ os) = o.id
name_at (suc place) (o ∷ os) = name_at place os

-- the arena at the place, if one was entered
abbrev pub inside_of : Bool → ℕ → List MonoArena → Option ArenaId
inside_of false place os = None
inside_of true place os = Some (name_at place os)

-- ---- what the fields keep

-- the slots count the places
abbrev pub CountFrom : ℕ → List MonoArena → Type 0
CountFrom n [] = Unit {0}
CountFrom n (o ∷ os) = (o.id.slot ≡ n) × (owner_of o.id ≡ only_caller) × CountFrom (n + 1) os

-- the given bytes are within the limit, and an arena that is alive has just their words
pub record FitsIn (limit : ℕ) (o : MonoArena) : Type 0 where
  pub given : o.given ≤ limit
  pub words : o.is_alive ≡ true → length o.words.items ≡ words_within o.given
  -- one that has ended has given its memory back
  pub freed : o.is_alive ≡ false → vec_capacity o.words ≡ 0

-- the arena that was entered is there, and is alive
abbrev pub IsThere : Option ArenaId → List MonoArena → Type 0
IsThere None os = Unit {0}
IsThere (Some a) os = (o : MonoArena) × (slice_get os a.slot ≡ Some o) × (o.id ≡ a) × (o.is_alive ≡ true)

pub record IsSoundMono (limit : ℕ) (inside : Option ArenaId) (os : List MonoArena) : Type 0 where
  pub small : limit ≤ 2 ^ 40
  pub few : length os ≤ most_arenas
  pub names : CountFrom 0 os
  pub fit : (i : ℕ) (o : MonoArena) → slice_get os i ≡ Some o → FitsIn limit o
  pub there : IsThere inside os

-- the place of the arena that was entered
abbrev pub IsPlaceOf : Option ArenaId → ℕ → Type 0
IsPlaceOf None place = Unit {0}
IsPlaceOf (Some a) place = place ≡ a.slot

pub record IsKept (limit : ℕ) (inside : Option ArenaId) (current : ℕ) (os : List MonoArena) : Type 0 where
  pub arenas : IsSoundMono limit inside os
  pub place : IsPlaceOf inside current

-- ---- what the steps of calls do

abbrev pub IsKnown : Arenas → ArenaId → Type 0
IsKnown m id = has_arena m.state id ≡ true

-- where a call may come into an arena
pub record CanEnter (m : Arenas) (id : ArenaId) : Type 0 where
  pub outside : m.inside ≡ None
  pub known : IsKnown m id
  pub may : MayUse id only_caller
  pub nowhere : IsUnderWayNowhere m.state only_caller
  pub empty : (arena_of m.state id).under_way ≡ []

-- the word of the arena that was entered
pub record Finds (m : Arenas) (word found : ℕ) : Type 0 where
  pub id : ArenaId
  pub inside : m.inside ≡ Some id
  pub reach : MayReach m.state only_caller id word
  pub is : found ≡ word_in m.state id word
  pub small : m.limit ≤ 2 ^ 40

-- a word is put in the arena that was entered
pub record Puts (old new : Arenas) (word value : ℕ) : Type 0 where
  pub id : ArenaId
  pub inside : old.inside ≡ Some id
  pub reach : MayPut old.state only_caller id word value
  pub after : new ≡ record old { state = changed old.state id (written word value) }
  pub small : old.limit ≤ 2 ^ 40

pub record GoesOut (old new : Arenas) : Type 0 where
  pub id : ArenaId
  pub inside : old.inside ≡ Some id
  pub under_way : IsUnderWay old.state only_caller id
  pub after : new ≡ record old { state = changed old.state id (left only_caller); inside = None }
  pub small : old.limit ≤ 2 ^ 40

-- Allocate in an arena that is alive, or nothing where memory is wanting
abbrev pub Allots : Arenas → ArenaId → ℕ → ℕ → Result ℕ Refusal → Arenas → Type 0
Allots old a size align (Ok place) new =
    (Given place ≡ reply_to old.limit old.state (Allocate a size align))
    × (new ≡ record old { state = changed old.state a (given_up_to (place + size)) })
Allots old a size align (Err (refusal.NoRoom given)) new =
    (NoRoom given ≡ reply_to old.limit old.state (Allocate a size align)) × (new ≡ old)
Allots old a size align (Err refusal.Memory) new = new ≡ old
Allots old a size align (Err r) new = ⊥

-- when an allocation may want memory: the arena is alive and has the room, and it needs more words than hold the bytes given so far
pub record WantsWords (m : Arenas) (id : ArenaId) (size align : ℕ) : Type 0 where
  pub alive : (arena_of m.state id).life ≡ Alive
  pub room : rounded_up (arena_of m.state id).given align + size ≤ m.limit
  pub grows : words_within (arena_of m.state id).given < words_within (rounded_up (arena_of m.state id).given align + size)
