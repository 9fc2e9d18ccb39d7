-- Numbers whose bytes are reversed, and what values mean in either order.
use Rattle.std.proofs.Common.{◌≡◌, ℕ, zero, suc, ◌+◌, ◌-◌, ◌*◌, ◌/◌, ◌%◌, ◌^◌, ◌<◌, ◌≤◌, Fits, List, [], ◌∷◌, ◌++◌, length, replicate, reverse, refl, sym, ap, subst, ◌∙◌, arith}
use Rattle.std.specs.Int.{w64, swap_bytes, from_be_bytes, bytes_low_first, byte_at}
use Rattle.std.proofs.lemmas.List.{reverse-append, reverse-reverse, length-reverse, length-replicate, get_or-reverse, drop_all, append-nil, replicate_more}
use Rattle.std.proofs.lemmas.{Grind.{reverse_onto}, Nat.{shr-shr, pow_pos, shl-shr, shr_split, mod_below}}
use Rattle.byteorder.proofs.Bytes.{pow256}
use Rattle.fm_base_bytes.specs.Bytes.{AreBytes, bytes_of, number_of, lane, replaced}
use Rattle.fm_base_bytes.proofs.Bytes.{length-bytes_of, AreBytes-bytes_of, bytes_of-suc, bytes_of-zero, bytes_of-mod, bytes_of-number_of, number_of-bytes_of, number_of-bytes_of_mod, number_of-lt, number_of-append, number_of-zeros, bytes_of-replaced, replaced-replaced, replaced-lane, replaced-lt}
use Rattle.fm_base_bytes.proofs.Words.{bytes_of-filled}
use Rattle.fm_lanes.specs.{declared.order.Order.{Order, TheVariants.{Little, Big}}, Coding.{turned, lowest_first}}

-- ---- the library's bytes of a word are these

byte_at_is : (i n : ℕ) → byte_at i n ≡ n / 2 ^ (8 * i) % 256
byte_at_is zero n = let e : n / 2 ^ (8 * 0) ≡ n = omega arith in rw e refl
byte_at_is (suc i) n = ap (λ m. n / m % 256) (pow256 (suc i))

bytes_low_first_is : (i k n : ℕ) → bytes_low_first i k n ≡ bytes_of k (n / 2 ^ (8 * i))
bytes_low_first_is i zero n = sym (bytes_of-zero (n / 2 ^ (8 * i)))
bytes_low_first_is i (suc k) n =
    let next : n / 2 ^ (8 * suc i) ≡ n / 2 ^ (8 * i) / 256 =
    ap (λ m. n / 2 ^ m) (let e : 8 * suc i ≡ 8 * i + 8 = omega arith in e) ∙ sym (shr-shr n (8 * i) 8) in
    ap (λ b. b ∷ bytes_low_first (suc i) k n) (byte_at_is i n)
    ∙ ap (λ bs. n / 2 ^ (8 * i) % 256 ∷ bs) (bytes_low_first_is (suc i) k n ∙ ap (bytes_of k) next)
    ∙ sym (bytes_of-suc k (n / 2 ^ (8 * i)))

eight_reversed : (a b c d e f g h : ℕ) → from_be_bytes w64 (a ∷ b ∷ c ∷ d ∷ e ∷ f ∷ g ∷ h ∷ []) ≡ number_of (reverse (a ∷ b ∷ c ∷ d ∷ e ∷ f ∷ g ∷ h ∷ []))
eight_reversed a b c d e f g h = omega arith

-- The number of a word's bytes in reverse, as the library swaps them.
swap_bytes-number_of : (n : ℕ) → swap_bytes w64 n ≡ number_of (reverse (bytes_of 8 n))
unfolding bytes_of
swap_bytes-number_of n =
    let e : n / 2 ^ (8 * 0) ≡ n = omega arith in
    ap (from_be_bytes w64) (bytes_low_first_is 0 8 n ∙ ap (bytes_of 8) e)
    ∙ eight_reversed (n % 256) (n / 256 % 256) (n / 256 / 256 % 256) (n / 256 / 256 / 256 % 256) (n / 256 / 256 / 256 / 256 % 256)
    (n / 256 / 256 / 256 / 256 / 256 % 256) (n / 256 / 256 / 256 / 256 / 256 / 256 % 256) (n / 256 / 256 / 256 / 256 / 256 / 256 / 256 % 256)

-- ---- bytes reversed

-- Bytes in reverse are bytes.
pub AreBytes-reverse : (bytes : List ℕ) → AreBytes bytes → AreBytes (reverse bytes)
AreBytes-reverse bytes h = λ k d lt.
    let in_bytes : k < length bytes = omega (arith, length-reverse bytes) in
    rw (get_or-reverse bytes k d in_bytes) (h (length bytes - 1 - k) d (omega arith))

-- The number of a number's bytes in reverse.
abbrev reversed : ℕ → ℕ → ℕ
reversed width n = number_of (reverse (bytes_of width n))

are_reversed : (width n : ℕ) → AreBytes (reverse (bytes_of width n))
are_reversed width n = AreBytes-reverse (bytes_of width n) (AreBytes-bytes_of width n)

length-reversed : (width n : ℕ) → length (reverse (bytes_of width n)) ≡ width
length-reversed width n = length-reverse (bytes_of width n) ∙ length-bytes_of width n

reversed-lt : (width n : ℕ) → reversed width n < 2 ^ (8 * width)
reversed-lt width n =
    let Small : ℕ → Type 0 = λ k. number_of (reverse (bytes_of width n)) < 2 ^ (8 * k) in
    subst Small (length-reversed width n) (number_of-lt (reverse (bytes_of width n)) (are_reversed width n))

bytes_of-reversed : (width n : ℕ) → bytes_of width (reversed width n) ≡ reverse (bytes_of width n)
bytes_of-reversed width n =
    ap (λ k. bytes_of k (reversed width n)) (sym (length-reversed width n))
    ∙ bytes_of-number_of (reverse (bytes_of width n)) (are_reversed width n)

reverse-zeros : (k zero_byte : ℕ) → reverse (replicate k zero_byte) ≡ replicate k zero_byte
reverse-zeros zero b = refl
reverse-zeros (suc k) b =
    let e : k + 1 ≡ suc k = omega arith in
    reverse_onto (replicate k b) b [] ∙ ap (λ bs. bs ++ (b ∷ [])) (reverse-zeros k b) ∙ replicate_more k b ∙ ap (λ n. replicate n b) e

-- The word's swapped bytes, moved down, are the lowest bytes in reverse.
swapped-shr : (width v : ℕ) → 1 ≤ width → width ≤ 8 → swap_bytes w64 (v % 2 ^ (8 * width)) / 2 ^ (64 - 8 * width) ≡ reversed width v
swapped-shr width v h fits =
    let low = v % 2 ^ (8 * width) in
    let few = bytes_of width v in
    let rest = 8 - width in
    let zeros_in_front : List ℕ = reverse (replicate (8 - width) 0) in
    let small : v % 2 ^ (8 * width) < 2 ^ (8 * width) = mod_below v (2 ^ (8 * width)) (pow_pos (8 * width)) in
    let all : bytes_of 8 (v % 2 ^ (8 * width)) ≡ bytes_of width v ++ replicate (8 - width) 0 =
    ap (bytes_of 8) (sym (number_of-bytes_of width (v % 2 ^ (8 * width)) small))
    ∙ ap (λ bs. bytes_of 8 (number_of bs)) (bytes_of-mod width v)
    ∙ bytes_of-filled 8 (bytes_of width v) (AreBytes-bytes_of width v) (omega (arith, length-bytes_of width v))
    ∙ ap (λ k. bytes_of width v ++ replicate (8 - k) 0) (length-bytes_of width v) in
    let zeros : number_of (reverse (replicate (8 - width) 0)) ≡ 0 =
    ap number_of (reverse-zeros (8 - width) 0) ∙ number_of-zeros (8 - width) in
    let len : length {A = ℕ} (reverse (replicate (8 - width) 0)) ≡ 8 - width =
    length-reverse {A = ℕ} (replicate (8 - width) 0) ∙ length-replicate {A = ℕ} (8 - width) 0 in
    let bits : 8 * (8 - width) ≡ 64 - 8 * width = omega arith in
    let whole : swap_bytes w64 (v % 2 ^ (8 * width)) ≡ reversed width v * 2 ^ (64 - 8 * width) =
    swap_bytes-number_of (v % 2 ^ (8 * width))
    ∙ ap (λ bs. number_of (reverse bs)) all
    ∙ ap number_of (reverse-append (bytes_of width v) (replicate (8 - width) 0))
    ∙ number_of-append (reverse (replicate (8 - width) 0)) (reverse (bytes_of width v))
    ∙ ap (λ n. n + 2 ^ (8 * length zeros_in_front) * reversed width v) zeros
    ∙ ap (λ k. 0 + 2 ^ (8 * k) * reversed width v) len
    ∙ ap (λ k. 0 + 2 ^ k * reversed width v) bits
    ∙ omega arith in
    ap (λ n. n / 2 ^ (64 - 8 * width)) whole ∙ shl-shr (reversed width v) (64 - 8 * width)

-- A number with its lowest bytes in reverse is still a word.
pub turned-lt : (width v : ℕ) → width ≤ 8 → v < 2 ^ 64 → turned width v Big < 2 ^ 64
turned-lt width v fits h = replaced-lt 8 0 width v (reversed width v) (omega arith) h (reversed-lt width v)

fits_word : (n : ℕ) → n < 2 ^ 64 → Fits w64 n
fits_word n h = omega arith

-- The lowest bytes of a number with its bytes in reverse.
bytes_of-turned : (width v : ℕ) → bytes_of width (turned width v Big) ≡ reverse (bytes_of width v)
bytes_of-turned width v =
    let r = reversed width v in
    bytes_of-replaced width 0 width v (reversed width v) (omega arith) (reversed-lt width v)
    ∙ ap (λ bs. bytes_of width (reversed width v) ++ bs) (drop_all (0 + width) (bytes_of width v) (omega (arith, length-bytes_of width v)))
    ∙ append-nil (bytes_of width (reversed width v))
    ∙ bytes_of-reversed width v

-- Turned twice is the number.
pub turned-turned : (width v : ℕ) (order : Order) → turned width (turned width v order) order ≡ v
turned-turned width v Little = refl
turned-turned width v Big =
    let back : reversed width (turned width v Big) ≡ lane v 0 width =
    ap (λ bs. number_of (reverse bs)) (bytes_of-turned width v)
    ∙ ap number_of (reverse-reverse (bytes_of width v))
    ∙ number_of-bytes_of_mod width v
    ∙ ap (λ n. n % 2 ^ (8 * width)) (let one : v ≡ v / 2 ^ (8 * 0) = omega arith in one) in
    ap (replaced (turned width v Big) 0 width) back
    ∙ replaced-replaced v 0 width (reversed width v) (lane v 0 width) (reversed-lt width v)
    ∙ replaced-lane v 0 width

module _ (width v low swapped : ℕ) (h : 1 ≤ width) (fits : width ≤ 8) where
  -- What the code makes of a number is the number with its lowest bytes in reverse.
  pub turned_is : low ≡ lane v 0 width → swapped ≡ swap_bytes w64 low → v - low + swapped / 2 ^ (64 - 8 * width) ≡ turned width v Big
  turned_is e d =
      let one : v / 2 ^ (8 * 0) ≡ v = omega arith in
      let low_is : low ≡ v % 2 ^ (8 * width) = e ∙ ap (λ n. n % 2 ^ (8 * width)) one in
      let upper : v - low ≡ v / 2 ^ (8 * width) * 2 ^ (8 * width) = omega (arith, shr_split v (8 * width)) in
      let part : swapped / 2 ^ (64 - 8 * width) ≡ reversed width v =
      ap (λ n. n / 2 ^ (64 - 8 * width)) (d ∙ ap (swap_bytes w64) low_is) ∙ swapped-shr width v h fits in
      let at : 8 * width ≡ 8 * (0 + width) = omega arith in
      let all : v / 2 ^ (8 * width) * 2 ^ (8 * width) ≡ v / 2 ^ (8 * (0 + width)) * 2 ^ (8 * (0 + width)) =
      ap (λ k. v / 2 ^ k * 2 ^ k) at in
      omega arith

  -- It fits a word.
  pub turned_fits : v < 2 ^ 64 → low ≡ lane v 0 width → swapped ≡ swap_bytes w64 low → Fits w64 (v - low + swapped / 2 ^ (64 - 8 * width))
  turned_fits small e d =
      let Small : ℕ → Type 0 = λ n. n < 2 ^ 64 in
      fits_word (v - low + swapped / 2 ^ (64 - 8 * width)) (subst Small (sym (turned_is e d)) (turned-lt width v fits small))

  -- Turned again it is the number.
  pub turned_back : low ≡ lane v 0 width → swapped ≡ swap_bytes w64 low → turned width (v - low + swapped / 2 ^ (64 - 8 * width)) Big ≡ v
  turned_back e d = ap (λ n. turned width n Big) (turned_is e d) ∙ turned-turned width v Big

-- The lowest bytes of a number that is turned, in either order.
pub bytes_of-turned_order : (width v : ℕ) (order : Order) → bytes_of width (turned width v order) ≡ lowest_first order (bytes_of width v)
bytes_of-turned_order width v Little = refl
bytes_of-turned_order width v Big = bytes_of-turned width v

-- A number of this width that is turned still has this width.
pub turned-lt_width : (width v : ℕ) (order : Order) → v < 2 ^ (8 * width) → turned width v order < 2 ^ (8 * width)
turned-lt_width width v Little h = h
turned-lt_width width v Big h = replaced-lt width 0 width v (reversed width v) (omega arith) h (reversed-lt width v)

-- A number of this width that is turned is the number of its bytes in that order.
pub turned_number : (width v : ℕ) (order : Order) → v < 2 ^ (8 * width) → turned width v order ≡ number_of (lowest_first order (bytes_of width v))
turned_number width v order h =
    sym (number_of-bytes_of width (turned width v order) (turned-lt_width width v order h)) ∙ ap number_of (bytes_of-turned_order width v order)
