-- Words of bits: bit k is for the thing of number k; of many words, bit k of word g for that of number 64 g + k.
use Rattle.std.specs.{Prelude.{◌≡◌, ◌≢◌, ℕ, ◌+◌, ◌-◌, ◌*◌, ◌/◌, ◌%◌, ◌<◌, ◌^◌}, Int.{bit_at}}

-- the word whose first bits are 1, this many
abbrev pub ones : ℕ → ℕ
ones count = 2 ^ count - 1

-- of the first bits of the word, this many, it is the lowest that is 1
pub record IsLowest (word count bit : ℕ) : Type 0 where
  pub low : bit < count
  pub one : bit_at word bit ≡ 1
  pub least : (k : ℕ) → k < bit → bit_at word k ≡ 0

-- x is the word w, but that its bit of this number is 0
pub record IsWithout (w bit x : ℕ) : Type 0 where
  pub zero : bit_at x bit ≡ 0
  pub others : (k : ℕ) → k ≢ bit → bit_at x k ≡ bit_at w k
  pub same : bit_at w bit ≡ 0 → x ≡ w

-- the number of the thing at this bit of the word of a group
abbrev pub number_at : (group bit : ℕ) → ℕ
number_at group bit = group * 64 + bit

-- the bit of the thing of this number
abbrev pub bit_of : (ℕ → ℕ) → ℕ → ℕ
bit_of words n = bit_at (words (n / 64)) (n % 64)
