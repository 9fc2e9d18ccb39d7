-- The places of a pool's words in their one table.
use Rattle.std.specs.Prelude.{◌≡◌, ℕ, ◌+◌, ◌*◌, ◌/◌, ◌<◌}
use Rattle.fm_words.specs.declared.shape.Shape.{Shape}

-- what a word is for, in the order of the table
pub data Place : Type 0 where
  -- always 0
  front : Place
  -- the count of drawn pass numbers
  draw : Place
  -- bit k is 1 where slot k can be taken
  slot_bits : Place
  -- the mark of a pass
  mark : ℕ → Place
  -- one of the words behind a mark, which nobody uses: they keep the next mark off its cache line
  gap : ℕ → ℕ → Place
  -- the session of a slot
  session : ℕ → Place
  -- the count of bytes that the arena in a slot has given
  given : ℕ → Place
  -- of a slot, the map word of a part
  map : ℕ → ℕ → Place
  -- of a page, one of its words
  page_word : ℕ → ℕ → Place
  -- a word of page bits: bit k of word g is 1 where the page 64 g + k can be claimed
  page_bits : ℕ → Place
  -- a word of number bits: bit k of word g is 1 where the number 64 g + k can be drawn
  number_bits : ℕ → Place
  -- the term of a number
  term : ℕ → Place

-- how many words of page bits there are
abbrev pub page_groups : Shape → ℕ
page_groups z = (z.pages + 63) / 64

-- and of number bits
abbrev pub groups : Shape → ℕ
groups z = (z.passes + 63) / 64

-- a pool of this shape has the place
abbrev pub IsPlace : Shape → Place → Type 0
IsPlace z front = Unit {0}
IsPlace z draw = Unit {0}
IsPlace z slot_bits = Unit {0}
IsPlace z (mark k) = k < z.passes
IsPlace z (gap k i) = (k < z.passes) × (i < 7)
IsPlace z (session s) = s < z.slots
IsPlace z (given s) = s < z.slots
IsPlace z (map s i) = (s < z.slots) × (i < z.reach)
IsPlace z (page_word k w) = (k < z.pages) × (w < z.page_words)
IsPlace z (page_bits g) = g < page_groups z
IsPlace z (number_bits g) = g < groups z
IsPlace z (term k) = k < z.passes

-- where the words of each kind begin: where those of the kind before end. What a visit looks at comes first, at the shortest sums.
abbrev pub marks_from : ℕ
marks_from = 3

abbrev pub sessions_from : Shape → ℕ
sessions_from z = marks_from + 8 * z.passes

abbrev pub given_from : Shape → ℕ
given_from z = sessions_from z + z.slots

abbrev pub maps_from : Shape → ℕ
maps_from z = given_from z + z.slots

abbrev pub pages_from : Shape → ℕ
pages_from z = maps_from z + z.slots * z.reach

abbrev pub page_bits_from : Shape → ℕ
page_bits_from z = pages_from z + z.pages * z.page_words

abbrev pub numbers_from : Shape → ℕ
numbers_from z = page_bits_from z + page_groups z

abbrev pub terms_from : Shape → ℕ
terms_from z = numbers_from z + groups z

-- how many words the table has
unfoldable pub words : Shape → ℕ
words z = terms_from z + z.passes

-- the word at which a place lies
unfoldable pub at : Shape → Place → ℕ
at z front = 0
at z draw = 1
at z slot_bits = 2
at z (mark k) = marks_from + 8 * k
at z (gap k i) = marks_from + (8 * k + (1 + i))
at z (session s) = sessions_from z + s
at z (given s) = given_from z + s
at z (map s i) = maps_from z + (s * z.reach + i)
at z (page_word k w) = pages_from z + (k * z.page_words + w)
at z (page_bits g) = page_bits_from z + g
at z (number_bits g) = numbers_from z + g
at z (term k) = terms_from z + k

-- each place lies in the table, no two at the same word, and each word of the table has a place
pub record NamesEachWordOnce (z : Shape) : Type 0 where
  pub within : (p : Place) → IsPlace z p → at z p < words z
  pub apart : (p q : Place) → IsPlace z p → IsPlace z q → at z p ≡ at z q → p ≡ q
  pub named : (i : ℕ) → i < words z → (p : Place) × IsPlace z p × (at z p ≡ i)

abbrev pub EveryWordHasOnePlace : Type 0
EveryWordHasOnePlace = (z : Shape) → NamesEachWordOnce z
