-- Masks and shifts as remainders and products.
use Rattle.std.proofs.Common.{◌≡◌, ℕ, ◌+◌, ◌-◌, ◌*◌, ◌/◌, ◌%◌, ◌^◌, ◌<◌, ◌≤◌, bit_and, sym, ap, ◌∙◌, arith}
use Rattle.std.proofs.lemmas.Nat.{pow_pos, pow-add, and_mask, shr_high, shl_whole, mod_below}

product_of_ones : (a b : ℕ) → a * (b + 1) + b ≡ (a + 1) * (b + 1) - 1
product_of_ones a b = omega arith

-- The highest bits of all ones are ones.
ones-shr : (j k : ℕ) → j + k ≡ 64 → (2 ^ 64 - 1) / 2 ^ k ≡ 2 ^ j - 1
ones-shr j k e =
    let a = pow_pos j in
    let b = pow_pos k in
    let a' : 2 ^ j ≡ (2 ^ j - 1) + 1 = omega arith in
    let b' : 2 ^ k ≡ (2 ^ k - 1) + 1 = omega arith in
    let whole : (2 ^ j - 1) * 2 ^ k + (2 ^ k - 1) ≡ 2 ^ 64 - 1 =
    ap (λ n. (2 ^ j - 1) * n + (2 ^ k - 1)) b' ∙ product_of_ones (2 ^ j - 1) (2 ^ k - 1)
    ∙ (rw (← a', ← b') (ap (λ n. n - 1) (sym (pow-add 2 j k) ∙ ap (λ n. 2 ^ n) e))) in
    ap (λ n. n / 2 ^ k) (sym whole) ∙ shr_high (2 ^ j - 1) k (2 ^ k - 1) (omega arith)

-- A number of a width, moved to a byte of a word, stays whole.
pub moved_whole : (n at width : ℕ) → at + width ≤ 8 → n < 2 ^ (8 * width) → n * 2 ^ (8 * at) % 2 ^ 64 ≡ n * 2 ^ (8 * at)
moved_whole n at width fits h = shl_whole n (8 * width) (8 * at) 64 h (omega arith)

-- The ones of a width, moved to a byte.
pub mask_is : (at width : ℕ) → 1 ≤ width → at + width ≤ 8
    → (2 ^ 64 - 1) / 2 ^ (64 - 8 * width) * 2 ^ (8 * at) % 2 ^ 64 ≡ (2 ^ (8 * width) - 1) * 2 ^ (8 * at)
mask_is at width h fits =
    let pos = pow_pos (8 * width) in
    ap (λ n. n * 2 ^ (8 * at) % 2 ^ 64) (ones-shr (8 * width) (64 - 8 * width) (omega arith))
    ∙ moved_whole (2 ^ (8 * width) - 1) at width fits (omega arith)

-- The lowest bytes of a number, under their mask.
pub masked_is : (n width mask : ℕ) → mask ≡ (2 ^ (8 * width) - 1) * 1 → bit_and n mask ≡ n % 2 ^ (8 * width)
masked_is n width mask e =
    ap (bit_and n) (e ∙ (let d : (2 ^ (8 * width) - 1) * 1 ≡ 2 ^ (8 * width) - 1 = omega arith in d)) ∙ and_mask n (8 * width)

-- The lowest bytes of a number, moved to a byte of a word.
pub bits_are : (n at width mask : ℕ) → at + width ≤ 8 → mask ≡ (2 ^ (8 * width) - 1) * 1
    → bit_and n mask * 2 ^ (8 * at) % 2 ^ 64 ≡ n % 2 ^ (8 * width) * 2 ^ (8 * at)
bits_are n at width mask fits e =
    ap (λ m. m * 2 ^ (8 * at) % 2 ^ 64) (masked_is n width mask e)
    ∙ moved_whole (n % 2 ^ (8 * width)) at width fits (mod_below n (2 ^ (8 * width)) (pow_pos (8 * width)))
