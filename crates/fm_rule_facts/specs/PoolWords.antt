-- The words of a pool, decoded.
use Rattle.std.specs.Prelude.{◌≡◌, ◌⊎◌, ℕ, ◌<◌, List, length, slice_index, Option, Some, None}
use Rattle.fm_words.specs.declared.shape.Shape.{Shape}
use Rattle.fm_words.specs.Places.{at, front, draw as draw_place, slot_bits, page_bits as page_bits_place, page_groups, mark, session, given as given_place, map, page_word, words as word_count, number_bits, term, groups}
use Rattle.fm_words.specs.Maps.{map_word}
use Rattle.fm_base_machine.specs.Functions.{Stage, Lives, Closes}
use Rattle.fm_base.specs.declared.arena_id.ArenaId.{ArenaId}
use Rattle.fm_rule_facts.specs.Words.{alive_word, closing_word, free_word, own_word}

pub data Session : Type 0 where
  -- the next arena of the slot is of this generation; none is, where all have been
  free : ℕ → Session
  live : ArenaId → Session
  shut : ArenaId → Session

pub record PoolWords : Type 0 where
  -- how many numbers were drawn
  pub draw : ℕ
  -- the words of number bits
  pub numbers : ℕ → ℕ
  -- the term of a number
  pub terms : ℕ → ℕ
  -- the word of slot bits
  pub bits : ℕ
  -- the words of page bits
  pub page_bits : ℕ → ℕ
  pub marks : ℕ → Option ArenaId
  pub sessions : ℕ → Session
  -- the holds that a session word counts
  pub counts : ℕ → ℕ
  pub given : ℕ → ℕ
  -- the page that a map word names, by slot and part
  pub maps : ℕ → ℕ → Option ℕ
  -- the words of a page
  pub cells : ℕ → ℕ → ℕ

abbrev pub session_code : (generations : ℕ) → Session → ℕ → ℕ
session_code generations (free g) count = free_word generations g
session_code generations (live a) count = alive_word a count
session_code generations (shut a) count = closing_word a

abbrev pub own_map : Option ℕ → ℕ
own_map None = 0
own_map (Some p) = map_word p

pub record Shows (z : Shape) (words : List ℕ) (m : PoolWords) : Type 0 where
  pub wide : length words ≡ word_count z
  pub front : slice_index words (at z front) ≡ 0
  pub draw : slice_index words (at z draw_place) ≡ m.draw
  pub slot_bits : slice_index words (at z slot_bits) ≡ m.bits
  pub page_bits : (g : ℕ) → g < page_groups z → slice_index words (at z (page_bits_place g)) ≡ m.page_bits g
  pub numbers : (g : ℕ) → g < groups z → slice_index words (at z (number_bits g)) ≡ m.numbers g
  pub terms : (k : ℕ) → k < z.passes → slice_index words (at z (term k)) ≡ m.terms k
  pub marks : (k : ℕ) → k < z.passes → slice_index words (at z (mark k)) ≡ own_word (m.marks k)
  pub sessions : (s : ℕ) → s < z.slots → slice_index words (at z (session s)) ≡ session_code z.generations (m.sessions s) (m.counts s)
  pub given : (s : ℕ) → s < z.slots → slice_index words (at z (given_place s)) ≡ m.given s
  pub maps : (s i : ℕ) → s < z.slots → i < z.reach → slice_index words (at z (map s i)) ≡ own_map (m.maps s i)
  pub cells : (p w : ℕ) → p < z.pages → w < z.page_words → slice_index words (at z (page_word p w)) ≡ m.cells p w

-- alive, or shut and not ended
abbrev pub IsStanding : Stage → Type 0
IsStanding l = (l ≡ Lives) ⊎ (l ≡ Closes)

-- the session of its slot shows the arena
abbrev pub IsShown : (ℕ → Session) → ArenaId → Type 0
IsShown sessions a = (sessions a.slot ≡ live a) ⊎ (sessions a.slot ≡ shut a)
