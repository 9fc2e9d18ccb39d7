-- Words of marks read back.
use Rattle.std.proofs.Common.{◌≡◌, ◌≢◌, ℕ, zero, suc, ◌-◌, ◌/◌, ◌%◌, ◌^◌, ◌<◌, ◌≤◌, None, Some, refl, ap, sym, ◌∙◌, arith}
use Rattle.fm_words.specs.Marks.{mark_word, mark_in, mark_of}

-- Slot and generation are read back from their word.
pub mark_of-mark_word : (slot generation : ℕ) → generation < 2 ^ 32 → mark_of (mark_word slot generation) ≡ Some (slot, generation)
unfolding mark_of mark_word
mark_of-mark_word slot generation h =
    let high : mark_word slot generation / 2 ^ 32 ≡ suc slot = omega arith in
    let low : mark_word slot generation % 2 ^ 32 ≡ generation = omega arith in
    λ i. mark_in (high i) (low i)

mark_in-none : (high low : ℕ) → high < 1 → mark_in high low ≡ None
mark_in-none zero low h = refl
mark_in-none (suc high) low h = absurd (omega arith)

-- A word below 2 to the 32 is no mark; so is 0.
pub mark_of-none : (word : ℕ) → word < 2 ^ 32 → mark_of word ≡ None
unfolding mark_of
mark_of-none word h = mark_in-none (word / 2 ^ 32) (word % 2 ^ 32) (omega arith)

mark_in-some : (high low slot : ℕ) → 1 ≤ high → slot ≡ high - 1 → mark_in high low ≡ Some (slot, low)
mark_in-some zero low slot h e = absurd (omega arith)
mark_in-some (suc high) low slot h e = let same : high ≡ slot = omega arith in ap (λ n. Some (n, low)) same

-- Every other word is the mark of its halves, the high one less 1.
pub mark_of-halves : (word high low slot : ℕ) → high ≡ word / 2 ^ 32 → low ≡ word % 2 ^ 32 → 1 ≤ high → slot ≡ high - 1
    → mark_of word ≡ Some (slot, low)
unfolding mark_of
mark_of-halves word high low slot a b h e = (λ i. mark_in (sym a i) (sym b i)) ∙ mark_in-some high low slot h e

-- A word is that of the slot and generation that are read from it.
pub mark_word-halves : (word high low slot : ℕ) → high ≡ word / 2 ^ 32 → low ≡ word % 2 ^ 32 → 1 ≤ high → slot ≡ high - 1
    → mark_word slot low ≡ word
unfolding mark_word
mark_word-halves word high low slot a b h e = omega arith
