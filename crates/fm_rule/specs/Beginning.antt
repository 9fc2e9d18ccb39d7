-- The bits of a new pool's words.
use Rattle.std.specs.{Prelude.{◌≡◌, ◌≢◌, ℕ, ◌<◌, ◌≤◌, List}, Int.{bit_at}}
use Rattle.fm_words.specs.{declared.shape.Shape.{Shape}, Bits.{number_at}}
use Rattle.fm_rule_facts.specs.{PoolWords.{Shows}, Beginning.{first_words}}

-- a group's word of bits for so many things: each has its bit 1, and no other bit is 1
pub record IsFull (count group word : ℕ) : Type 0 where
  pub ones : (k : ℕ) → k < 64 → number_at group k < count → bit_at word k ≡ 1
  pub low : (k : ℕ) → bit_at word k ≡ 1 → number_at group k < count

-- a word of number bits: each number of the pool is free, but number 0, and no other bit is 1
pub record AreFirst (z : Shape) (group word : ℕ) : Type 0 where
  pub free : (k : ℕ) → k < 64 → number_at group k ≢ 0 → number_at group k < z.passes → bit_at word k ≡ 1
  pub taken : group ≡ 0 → bit_at word 0 ≡ 0
  pub low : (k : ℕ) → bit_at word k ≡ 1 → number_at group k < z.passes

-- the words of a new pool, of which so many words of page bits and of number bits are set
pub record IsBegun (z : Shape) (words : List ℕ) (pages numbers : ℕ) : Type 0 where
  pub page_bits : ℕ → ℕ
  pub number_bits : ℕ → ℕ
  pub shows : Shows z words (first_words z page_bits number_bits)
  pub pages_set : (g : ℕ) → g < pages → IsFull z.pages g (page_bits g)
  pub pages_left : (g : ℕ) → pages ≤ g → page_bits g ≡ 0
  pub numbers_set : (g : ℕ) → g < numbers → AreFirst z g (number_bits g)
