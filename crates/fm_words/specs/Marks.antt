-- The word of a mark: slot plus 1 in the high 32 bits, the generation in the low ones.
use Rattle.std.{specs.Prelude.{ℕ, ◌+◌, ◌*◌, ◌/◌, ◌%◌, ◌^◌, Option, None, Some}, proofs.Common.{zero, suc}}

unfoldable pub mark_word : ℕ → ℕ → ℕ
mark_word slot generation = (slot + 1) * 2 ^ 32 + generation

-- the slot and generation of these high and low bits
abbrev pub mark_in : ℕ → ℕ → Option (ℕ × ℕ)
mark_in zero low = None
mark_in (suc slot) low = Some (slot, low)

unfoldable pub mark_of : ℕ → Option (ℕ × ℕ)
mark_of word = mark_in (word / 2 ^ 32) (word % 2 ^ 32)
