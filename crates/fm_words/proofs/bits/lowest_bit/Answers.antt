use Rattle.std.{proofs.{Common.{◌≡◌, ℕ, zero, suc, ◌<◌, ◌≤◌, ◌^◌, refl, arith}, lemmas.Nat.Bits.{bit_at-trailing_zeros, bit_at-zero}}, specs.Int.{bit_at, w64}}
use lib.Count.{count_trailing_zeros}
use Rattle.fm_words.specs.Bits.{IsLowest}
use Rattle.fm_words.proofs.bits.lowest_bit.Goals as goal

-- a number that has all bits 0 is 0
lowest : (n count : ℕ) → n < 2 ^ 64 → count ≤ 64 → count_trailing_zeros 64 n < count → IsLowest n count (count_trailing_zeros 64 n)
unfolding count_trailing_zeros
lowest zero count f c l = absurd (let q : count_trailing_zeros 64 0 ≡ 64 = refl in omega arith)
lowest (suc n) count f c l =
    let b = bit_at-trailing_zeros w64 (suc n) (omega arith) f in record { low = l; one = b.1; least = b.2 }

-- the bits below the lowest that is 1 are 0
none_below : (n count : ℕ) → n < 2 ^ 64 → count ≤ count_trailing_zeros 64 n → (k : ℕ) → k < count → bit_at n k ≡ 0
none_below zero count f c k l = bit_at-zero k
none_below (suc n) count f c k l = (bit_at-trailing_zeros w64 (suc n) (omega arith) f).2 k (omega arith)

pub returns-then-bit-count-clause-some : goal.returns-then-bit-count-clause-some
returns-then-bit-count-clause-some c = lowest c.args.word c.args.count c.ranges.word.fits c.requires c.if-bit-count.true

pub returns-else-bit-count-clause-none : goal.returns-else-bit-count-clause-none
returns-else-bit-count-clause-none c = none_below c.args.word c.args.count c.ranges.word.fits (let n = c.if-bit-count.false in omega arith)
