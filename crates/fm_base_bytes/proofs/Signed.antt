-- Two's complement back and forth, and that it is the library's at eight bytes.
use Rattle.std.proofs.Common.{◌≡◌, ℕ, suc, ◌-◌, ◌*◌, ◌^◌, ◌<◌, ◌≤◌, refl, sym, ap, subst, ◌∙◌, arith, inl, inr, ℤ, pos, negsuc}
use Rattle.std.{specs.Int.{w64, cast_unsigned}, proofs.{lemmas.{Bool.{cases_lt, cond-true, cond-false, lt-ltb, le-ltb}, Nat.{pow_pos}}, Math.Nat.{pow-succ'}}}
use Rattle.fm_base_bytes.specs.Signed.{signed_of, unsigned_of, FitsBytes}

-- A width holds twice what its numbers that aren't negative are.
pub half_of : (width : ℕ) → 1 ≤ width → 2 ^ (8 * width) ≡ 2 * 2 ^ (8 * width - 1)
half_of width h =
    let e : 8 * width ≡ suc (8 * width - 1) = omega arith in
    ap (λ n. 2 ^ n) e ∙ pow-succ' 2 (8 * width - 1)

-- The lower half is read as it is.
pub signed_of-low : (width n : ℕ) → n < 2 ^ (8 * width - 1) → signed_of width n ≡ pos n
signed_of-low width n h = cond-true _ (pos n) (negsuc (2 ^ (8 * width) - suc n)) (lt-ltb n (2 ^ (8 * width - 1)) h)

-- The upper half is read as negative.
pub signed_of-high : (width n : ℕ) → 2 ^ (8 * width - 1) ≤ n → signed_of width n ≡ negsuc (2 ^ (8 * width) - suc n)
signed_of-high width n h = cond-false _ (pos n) (negsuc (2 ^ (8 * width) - suc n)) (le-ltb n (2 ^ (8 * width - 1)) h)

-- A two's complement fits its width.
pub unsigned_of-lt : (width : ℕ) (z : ℤ) → 1 ≤ width → FitsBytes width z → unsigned_of width z < 2 ^ (8 * width)
unsigned_of-lt width (pos n) h f = omega (arith, half_of width h)
unsigned_of-lt width (negsuc n) h f = omega (arith, half_of width h, pow_pos (8 * width))

-- The signed number of a number's two's complement is the number.
pub signed_of-unsigned_of : (width : ℕ) (z : ℤ) → 1 ≤ width → FitsBytes width z → signed_of width (unsigned_of width z) ≡ z
signed_of-unsigned_of width (pos n) h f = signed_of-low width n f
signed_of-unsigned_of width (negsuc n) h f =
    let top = half_of width h in
    signed_of-high width (2 ^ (8 * width) - suc n) (omega arith)
    ∙ ap negsuc (let e : 2 ^ (8 * width) - suc (2 ^ (8 * width) - suc n) ≡ n = omega arith in e)

-- The two's complement of a signed number is what it was read from.
pub unsigned_of-signed_of : (width n : ℕ) → n < 2 ^ (8 * width) → unsigned_of width (signed_of width n) ≡ n
unsigned_of-signed_of width n h = elim (cases_lt n (2 ^ (8 * width - 1))) [
  | inl low ↦ ap (unsigned_of width) (signed_of-low width n low)
  | inr high ↦ ap (unsigned_of width) (signed_of-high width n high) ∙ omega arith
]

-- What was read fits.
pub FitsBytes-signed_of : (width n : ℕ) → 1 ≤ width → n < 2 ^ (8 * width) → FitsBytes width (signed_of width n)
FitsBytes-signed_of width n h f = elim (cases_lt n (2 ^ (8 * width - 1))) [
  | inl low ↦ subst (FitsBytes width) (sym (signed_of-low width n low)) low
  | inr high ↦
      let top = half_of width h in
      let small : 2 ^ (8 * width) - suc n < 2 ^ (8 * width - 1) = omega arith in
      subst (FitsBytes width) (sym (signed_of-high width n high)) small
]

-- The library's word at eight bytes.
pub unsigned_of-eight : (z : ℤ) → unsigned_of 8 z ≡ cast_unsigned w64 z
unsigned_of-eight (pos n) = refl
unsigned_of-eight (negsuc n) = refl
