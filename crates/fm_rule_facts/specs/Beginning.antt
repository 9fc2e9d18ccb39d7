-- The memory of a new pool.
use Rattle.std.specs.Prelude.{ℕ, None}
use Rattle.fm_words.specs.{declared.shape.Shape.{Shape}, Bits.{ones}}
use Rattle.fm_rule_facts.specs.PoolWords.{PoolWords, free}

-- with these slot bits, page bits and number bits
unfoldable pub blank : ℕ → (page_bits numbers : ℕ → ℕ) → PoolWords
blank bits page_bits numbers = record {
  draw = 1;
  numbers = numbers;
  terms = λ k. 0;
  bits = bits;
  page_bits = page_bits;
  marks = λ k. None;
  sessions = λ s. free 0;
  counts = λ s. 0;
  given = λ s. 0;
  maps = λ s i. None;
  cells = λ p w. 0;
}

-- every slot can be taken
abbrev pub first_words : Shape → (page_bits numbers : ℕ → ℕ) → PoolWords
first_words z page_bits numbers = blank (ones z.slots) page_bits numbers
