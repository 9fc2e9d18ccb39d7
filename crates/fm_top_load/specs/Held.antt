-- An arena that a caller by itself holds, and the bytes that were loaded into it.
use Rattle.std.specs.Prelude.{◌≡◌, ◌≢◌, ℕ, ◌≤◌, ◌^◌, true, List, None, length, map, IsTrue}
use Rattle.fm_base.specs.declared.{arena_id.ArenaId.{ArenaId}, refusal.Refusal.{Refusal, TheVariants.{Memory, PoolFull}}}
use Rattle.fm_base.specs.{Arenas.{Arena, State, Alive, arena_of, has_arena, MayUse}, Machine.{words_within}, Finds.{is_page}}
use Rattle.fm_base.specs.{Outcomes.{Nature, FoundNoneFree}, View.{View, IsByItself, given_in}}
use Rattle.fm_segment_access.specs.Alone.{bytes_of_arena, with_bytes}
use Rattle.fm_segment.specs.{Alone.{bytes_of_region}, Region.{Region}}

-- the words of an arena
abbrev pub words_at : View → ArenaId → List ℕ
words_at v a = (arena_of v.state a).words

-- The caller, by itself and in no arena, may use this one, which is alive and has all words of its limit.
pub record IsHeld (v : View) (a : ArenaId) : Type 0 where
  pub by_itself : IsByItself v
  pub small : v.limit ≤ 2 ^ 40
  pub outside : v.inside ≡ None
  pub known : has_arena v.state a ≡ true
  pub usable : MayUse a v.caller
  pub alive : (arena_of v.state a).life ≡ Alive
  pub size : length (words_at v a) ≡ words_within v.limit

-- the arena is held, has given so many bytes, and has these words
pub record HoldsThen (v : View) (a : ArenaId) (given : ℕ) (words : List ℕ) : Type 0 where
  pub held : IsHeld v a
  pub given_is : given_in v a ≡ given
  pub words_are : words_at v a ≡ words

-- the arenas, in the order in which they were opened
abbrev pub names_in : State → List ArenaId
names_in s = map (λ (a : Arena). a.id) s

-- from one state to the next only this arena changed
pub record OnlyIn (a : ArenaId) (s t : State) : Type 0 where
  pub names : names_in t ≡ names_in s
  pub arenas : (b : ArenaId) → has_arena t b ≡ has_arena s b
  pub others : (b : ArenaId) → b ≢ a → arena_of t b ≡ arena_of s b

-- it is held, and nothing of it was given yet
pub record IsEmpty (v : View) (a : ArenaId) : Type 0 where
  pub held : IsHeld v a
  pub none : given_in v a ≡ 0

-- nothing of it was given yet, and it can give so many bytes
pub record HasRoom (size : ℕ) (v : View) (a : ArenaId) : Type 0 where
  pub empty : IsEmpty v a
  pub room : size ≤ v.limit

-- what was loaded: the bytes of the segment
unfoldable pub loaded_in : View → Region → List ℕ
loaded_in v s = bytes_of_region v.state s

-- the arena is held, and the segment is all that it has given
pub record IsReady (v : View) (s : Region) : Type 0 where
  pub held : IsHeld v s.arena
  pub whole : s.first ≡ 0
  pub counted : given_in v s.arena ≡ s.size
  pub within : s.size ≤ v.limit

-- a step of the call found no free page, over a memory of which that may come
abbrev pub FoundFull : Nature → View → View → Type 0
FoundFull nature old new = IsTrue nature.pool_full × FoundNoneFree is_page old.told new.told

-- why an allocation that fits is refused: memory is wanting, where that may come, or a page
abbrev pub Wants : Nature → View → View → Refusal → Type 0
Wants nature old new Memory = IsTrue nature.memory
Wants nature old new PoolFull = FoundFull nature old new
Wants nature old new r = ⊥

-- The bytes stand at the place, in an arena that is held still and has given as much. Nothing else changed.
pub record PutsHeld (old new : View) (a : ArenaId) (place : ℕ) (bytes : List ℕ) : Type 0 where
  pub held : IsHeld new a
  pub given : given_in new a ≡ given_in old a
  pub stand : bytes_of_arena new.state a ≡ with_bytes (bytes_of_arena old.state a) place bytes
  pub elsewhere : OnlyIn a old.state new.state
