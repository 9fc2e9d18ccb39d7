-- What the updates do to the word in which a value lies.
use Rattle.std.specs.{Prelude.{◌≡◌, ◌≢◌, ℕ, ℤ, ◌/◌, ◌%◌, ◌^◌, ◌<◌, [], ◌∷◌, take, drop}, Int.{int_wrapping_add, w32, w64}}
use Rattle.fm_base.specs.{declared.arena_id.ArenaId.{ArenaId}, Calls.{Read, Write, SwapIf, Add, Fine, Found}, Visits.{Acts, Tries}}
use Rattle.fm_base_bytes.specs.Bytes.{bytes_of, number_of, replaced}
use Rattle.fm_lanes.specs.declared.{order.Order.{Order, TheVariants.{Little}}, value.Value.{Value, TheVariants.{Int, Long}}, value_kind.ValueKind.{ValueKind}}
use Rattle.fm_lanes.specs.{Coding.{value_of, bytes_of_value}, Kind.{width_of}, Value.{kind_of}}
use Rattle.fm_lanes.specs.declared.value_kind.ValueKind.TheVariants as kind

-- ---- values in words

-- the value that the bytes of a word from byte `at` on mean
abbrev pub value_in : ValueKind → Order → ℕ → ℕ → Value
value_in k o at word = value_of k o (take (width_of k) (drop at (bytes_of 8 word)))

-- the word with the bytes of v from byte `at` on; its other bytes stay
abbrev pub with_value : Order → Value → ℕ → ℕ → ℕ
with_value o v at word = replaced word at (width_of (kind_of v)) (number_of (bytes_of_value o v))

-- the word whose bytes are a long's
abbrev pub word_of : Order → ℤ → ℕ
word_of o z = number_of (bytes_of_value o (Long z))

-- the sum of two ints or two longs, wrapped in their width
abbrev pub sum_of : Value → Value → Value
sum_of (Int a) (Int b) = Int (int_wrapping_add w32 a b)
sum_of (Long a) (Long b) = Long (int_wrapping_add w64 a b)
sum_of a b = a

-- ---- one act on the word of the place

abbrev pub Stores : ArenaId → ℕ → ℕ → Acts → Type 0
Stores id place word acts = acts ≡ (Write id (place / 8) word, Fine) ∷ []

-- one SwapIf of whole words, which found a word that means `found`
pub record ExchangesLong (o : Order) (id : ArenaId) (place : ℕ) (expected v found : ℤ) (acts : Acts) : Type 0 where
  pub word : ℕ
  pub small : word < 2 ^ 64
  pub swaps : acts ≡ (SwapIf id (place / 8) (word_of o expected) (word_of o v), Found word) ∷ []
  pub value : Long found ≡ value_in kind.Long o 0 word

-- one Add, which found a word that means `found`
pub record AddsLong (id : ArenaId) (place : ℕ) (delta found : ℤ) (acts : Acts) : Type 0 where
  pub word : ℕ
  pub adds : acts ≡ (Add id (place / 8) (word_of Little delta), Found word) ∷ []
  pub value : Long found ≡ value_in kind.Long Little 0 word

-- ---- tries

-- Tries that were given up: any number of Read, and of SwapIf that didn't find their old word.
-- The last of them found a word that is as `GivesUp` says
pub data CutOff (id : ArenaId) (word : ℕ) (GivesUp : ℕ → Type 0) (found : ℕ) : Acts → Type 0 where
  looked : (now : ℕ) (acts : Acts) → CutOff id word GivesUp found acts
      → CutOff id word GivesUp found ((Read id word, Found now) ∷ acts)
  missed : (now old new : ℕ) (acts : Acts) → ¬ (now ≡ old) → CutOff id word GivesUp found acts
      → CutOff id word GivesUp found ((SwapIf id word old new, Found now) ∷ acts)
  at_read : GivesUp found → CutOff id word GivesUp found ((Read id word, Found found) ∷ [])
  at_swap : (old new : ℕ) → ¬ (found ≡ old) → GivesUp found
      → CutOff id word GivesUp found ((SwapIf id word old new, Found found) ∷ [])

-- Tries that put v where the value was `expected`, or such tries cut off where another value was found.
-- Other bytes of the word may change between them
pub data Exchanges (o : Order) (id : ArenaId) (place : ℕ) (expected v : Value) : Value → Acts → Type 0 where
  puts : (word : ℕ) (acts : Acts) → value_in (kind_of v) o (place % 8) word ≡ expected
      → Tries id (place / 8) (with_value o v (place % 8)) word acts
      → Exchanges o id place expected v expected acts
  finds_another : (word : ℕ) (found : Value) (acts : Acts) → found ≡ value_in (kind_of v) o (place % 8) word → found ≢ expected
      → CutOff id (place / 8) (λ now. value_in (kind_of v) o (place % 8) now ≢ expected) word acts
      → Exchanges o id place expected v found acts

-- tries that put the sum of the value found and `delta`, wrapped in its width
pub record Adds (o : Order) (id : ArenaId) (place : ℕ) (delta found : Value) (acts : Acts) : Type 0 where
  pub word : ℕ
  pub value : found ≡ value_in (kind_of delta) o (place % 8) word
  pub tries : Tries id (place / 8) (with_value o (sum_of found delta) (place % 8)) word acts
