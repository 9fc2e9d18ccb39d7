-- What the words of a pool at rest show of its history.
use Rattle.std.specs.{Prelude.{◌≡◌, ◌≢◌, ◌⊎◌, ℕ, ◌*◌, ◌/◌, ◌%◌, ◌<◌, ◌≤◌, true, List, [], Contains, slice_index}, Int.{bit_at}}
use Rattle.fm_words.specs.{declared.{shape.Shape.{Shape}, session.Session.{Session}}, Places.{at, slot_bits, session, given as given_place, map, page_word}}
use Rattle.fm_words.specs.{Maps.{map_word}, Sessions.{session_of, free as is_free, alive as is_alive, closing as is_closing}}
use Rattle.fm_base.specs.{declared.arena_id.ArenaId.{ArenaId}, Arenas.{State, Alive, Ended, has_arena, arena_of, word_in, kind_number}, Calls.{Entry}}
use Rattle.fm_base.specs.Histories.{state_after}
use Rattle.fm_rule_facts.specs.{Loans.{loan_of, loans_of, IsFree, HasPart}, Views.{Fits, span, limit_of}}

-- the arena that the session of slot k names was opened
pub record IsNamed (s : State) (k : ℕ) (i : Session) (a : ArenaId) : Type 0 where
  pub slot : a.slot ≡ k
  pub generation : a.generation ≡ i.generation
  pub kind : kind_number a.kind ≡ i.kind
  pub owner : a.owner ≡ i.owner
  pub known : has_arena s a ≡ true

-- it is the only one of its slot and generation
abbrev pub IsOnly : State → Session → ArenaId → Type 0
IsOnly s i a = (b : ArenaId) → b.slot ≡ a.slot → b.generation ≡ i.generation → has_arena s b ≡ true → b ≡ a

pub record ShowsAlive (z : Shape) (words : List ℕ) (s : State) (k : ℕ) (i : Session) : Type 0 where
  pub arena : ArenaId
  pub named : IsNamed s k i arena
  pub only : IsOnly s i arena
  pub life : (arena_of s arena).life ≡ Alive
  pub holds : (arena_of s arena).holds ≡ i.holds
  pub given : (arena_of s arena).given ≡ slice_index words (at z (given_place k))

-- an arena that is closing or has ended
pub record ShowsShut (s : State) (k : ℕ) (i : Session) : Type 0 where
  pub arena : ArenaId
  pub named : IsNamed s k i arena
  pub only : IsOnly s i arena
  pub life : (arena_of s arena).life ≢ Alive

-- an arena of the slot and generation was opened
abbrev pub IsUsed : State → (slot generation : ℕ) → Type 0
IsUsed s k g = (a : ArenaId) × (a.slot ≡ k) × (a.generation ≡ g) × (has_arena s a ≡ true)

-- what the session of slot k and its bit show
pub record ShowsSlot (z : Shape) (words : List ℕ) (s : State) (k : ℕ) (i : Session) : Type 0 where
  pub lives : (i.life ≡ is_free) ⊎ ((i.life ≡ is_alive) ⊎ (i.life ≡ is_closing))
  pub alive : i.life ≡ is_alive → ShowsAlive z words s k i
  pub closing : i.life ≡ is_closing → ShowsShut s k i
  pub free : i.life ≡ is_free → (a : ArenaId) → a.slot ≡ k → (arena_of s a).life ≡ Ended
  pub older : (a : ArenaId) → a.slot ≡ k → a.generation < i.generation → (arena_of s a).life ≡ Ended
  pub newest : (a : ArenaId) → a.slot ≡ k → has_arena s a ≡ true → a.generation ≤ i.generation
  -- the bit is 1 exactly where the session is free and its generation wasn't used
  pub bit_is : bit_at (slice_index words (at z slot_bits)) k ≡ 1 → (i.life ≡ is_free) × (¬ (IsUsed s k i.generation))
  pub is_bit : i.life ≡ is_free → ¬ (IsUsed s k i.generation) → bit_at (slice_index words (at z slot_bits)) k ≡ 1

-- what the words show of a word of an arena
pub record ShowsWord (z : Shape) (words : List ℕ) (s : State) (a : ArenaId) (w : ℕ) : Type 0 where
  pub page : ℕ
  pub low : page < z.pages
  pub part : w / z.page_words < z.reach
  pub named : slice_index words (at z (map a.slot (w / z.page_words))) ≡ map_word page
  pub word : word_in s a w ≡ slice_index words (at z (page_word page (w % z.page_words)))

pub record ShowsHistory (z : Shape) (words : List ℕ) (h : List Entry) : Type 0 where
  -- of an arena that hasn't ended, a word in a part with a block is the block's, and a word in a part without one is 0
  pub in_block : (a : ArenaId) (w block : ℕ) → (arena_of (state_after (limit_of z) [] h) a).life ≢ Ended → w < span z
      → Contains (loans_of h) (loan_of block a (w / z.page_words))
      → word_in (state_after (limit_of z) [] h) a w ≡ slice_index words (at z (page_word block (w % z.page_words)))
  pub in_none : (a : ArenaId) (w : ℕ) → (arena_of (state_after (limit_of z) [] h) a).life ≢ Ended → w < span z → ¬ (HasPart (loans_of h) a (w / z.page_words))
      → word_in (state_after (limit_of z) [] h) a w ≡ 0
  -- blocks that aren't lent hold zeros
  pub blank : (block w : ℕ) → block < z.pages → w < z.page_words → IsFree (loans_of h) block → slice_index words (at z (page_word block w)) ≡ 0
  -- a word with a given byte is one of the page that the map word of its part names
  pub named : (a : ArenaId) (w : ℕ) → (arena_of (state_after (limit_of z) [] h) a).life ≢ Ended → 8 * w < (arena_of (state_after (limit_of z) [] h) a).given
      → ShowsWord z words (state_after (limit_of z) [] h) a w
  pub fits : (a : ArenaId) → has_arena (state_after (limit_of z) [] h) a ≡ true → Fits z a
  -- no bit is 1 where there is no slot
  pub no_slot : (k : ℕ) → bit_at (slice_index words (at z slot_bits)) k ≡ 1 → k < z.slots
  pub slots : (k : ℕ) → k < z.slots
      → ShowsSlot z words (state_after (limit_of z) [] h) k (session_of (slice_index words (at z (session k))))

-- what the words show of an arena that is alive
pub record ShowsArena (z : Shape) (words : List ℕ) (s : State) (a : ArenaId) : Type 0 where
  pub life : (arena_of s a).life ≡ Alive
  pub given : (arena_of s a).given ≡ slice_index words (at z (given_place a.slot))
  -- a word with a given byte is one of the page that the map word of its part names
  pub word : (w : ℕ) → 8 * w < (arena_of s a).given → ShowsWord z words s a w
