-- The library's test of powers of two.
use Rattle.std.proofs.Common.{◌≡◌, ℕ, zero, suc, ◌+◌, ◌*◌, ◌/◌, ◌%◌, ◌^◌, ◌≤◌, true, sym, ap, ◌∙◌, arith, inl, inr, eq-eqb}
use Rattle.std.{specs.Int.{IsPowerOfTwo, is_power_of_two, RustNames.{count_ones}}, proofs.lemmas.Nat.{ones_cat, zero_from_ones, ones_le_self, pow_pos}}
use Rattle.std.proofs.{lemmas.Bool.{cases_lt, eqb-true}, Math.Nat.{pow-succ'}}

-- A number's ones are those of its half and its lowest bit.
ones_halved : (n : ℕ) → count_ones n ≡ count_ones (n / 2) + count_ones (n % 2)
ones_halved n =
    let e : n / 2 * 2 ^ 1 + n % 2 ≡ n = omega arith in
    ap count_ones (sym e) ∙ ones_cat 1 (n / 2) (n % 2) (omega arith)

ones_of_one : (n : ℕ) → n ≡ 1 → count_ones n ≡ 1
unfolding count_ones
ones_of_one n e = ap count_ones e

ones_of_zero : (n : ℕ) → n ≡ 0 → count_ones n ≡ 0
unfolding count_ones
ones_of_zero n e = ap count_ones e

one_one : (k n : ℕ) → n ≤ k → count_ones n ≡ 1 → IsPowerOfTwo n
one_one zero n h e = absurd (omega (arith, ones_le_self n))
one_one (suc k) n h e =
    let halves = ones_halved n in
    elim (cases_lt 0 (n % 2)) [
      | inl odd ↦
          let last : n % 2 ≡ 1 = omega arith in
          let none : n / 2 ≡ 0 = zero_from_ones (n / 2) (omega (arith, ones_of_one (n % 2) last)) in
          (0, omega arith)
      | inr even ↦
          let last : n % 2 ≡ 0 = omega arith in
          let some = ones_le_self n in
          let half = one_one k (n / 2) (omega arith) (omega (arith, ones_of_zero (n % 2) last)) in
          (suc half.0, omega (arith, half.1, pow-succ' 2 half.0))
    ]

-- What the test passes is a power of two.
pub IsPowerOfTwo-from_test : (n : ℕ) → is_power_of_two n ≡ true → IsPowerOfTwo n
IsPowerOfTwo-from_test n h = one_one n n (omega arith) (eqb-true (count_ones n) 1 h)

-- The test passes powers of two.
pub is_power_of_two-IsPowerOfTwo : (n : ℕ) → IsPowerOfTwo n → is_power_of_two n ≡ true
unfolding count_ones
is_power_of_two-IsPowerOfTwo n p =
    let e : n ≡ 1 * 2 ^ p.0 + 0 = omega (arith, p.1) in
    eq-eqb (count_ones n) 1 (ap count_ones e ∙ ones_cat p.0 1 0 (pow_pos p.0))
