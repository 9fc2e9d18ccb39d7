-- Bytes of numbers and the numbers of bytes, back and forth.
use Rattle.std.proofs.Common.{◌≡◌, ℕ, zero, suc, ◌+◌, ◌-◌, ◌*◌, ◌/◌, ◌%◌, ◌^◌, ◌<◌, ◌≤◌, List, [], ◌∷◌, ◌++◌, length, take, drop, get_or, replicate, lit<, refl, sym, ap, subst, ◌∙◌, arith}
use Rattle.std.proofs.lemmas.List.{take_at, drop_at, Elements.{All-nil, All-cons, All-head, All-tail}}
use Rattle.std.proofs.lemmas.Nat.{pow_pos, pow-add, mod_below, mod-pow-add, shr-shr, field_of, shr_high, mod_low, shr_split, shr_below, mul-add-lt}
use Rattle.fm_base_bytes.specs.{Bytes.{AreBytes, bytes_of, number_of, lane, replaced}, Words.{byte_of}}

-- ---- widths

-- One byte more is 256 times as much.
pub pow_byte : (k : ℕ) → 2 ^ (8 * suc k) ≡ 256 * 2 ^ (8 * k)
pow_byte k = let e : 8 * suc k ≡ 8 + 8 * k = omega arith in rw e (pow-add 2 8 (8 * k))

-- Two widths one after the other hold the product of what each holds.
pub pow_bytes : (j k : ℕ) → 2 ^ (8 * (j + k)) ≡ 2 ^ (8 * j) * 2 ^ (8 * k)
pow_bytes j k = let e : 8 * (j + k) ≡ 8 * j + 8 * k = omega arith in rw e (pow-add 2 (8 * j) (8 * k))

-- ---- the bytes of a number

-- A number has as many bytes as were asked for.
pub length-bytes_of : (width n : ℕ) → length (bytes_of width n) ≡ width
unfolding bytes_of
length-bytes_of zero n = refl
length-bytes_of (suc k) n = ap suc (length-bytes_of k (n / 256))

-- What `bytes_of` gives are bytes.
pub AreBytes-bytes_of : (width n : ℕ) → AreBytes (bytes_of width n)
unfolding bytes_of
AreBytes-bytes_of zero n = All-nil (λ b. b < 256)
AreBytes-bytes_of (suc k) n =
    All-cons (λ b. b < 256) (n % 256) (bytes_of k (n / 256)) (omega arith) (AreBytes-bytes_of k (n / 256))

-- No byte.
pub bytes_of-zero : (n : ℕ) → bytes_of 0 n ≡ []
unfolding bytes_of
bytes_of-zero n = refl

-- One byte.
pub bytes_of-one : (n : ℕ) → bytes_of 1 n ≡ n % 256 ∷ []
unfolding bytes_of
bytes_of-one n = refl

-- The lowest byte and the others.
pub bytes_of-suc : (k n : ℕ) → bytes_of (suc k) n ≡ n % 256 ∷ bytes_of k (n / 256)
unfolding bytes_of
bytes_of-suc k n = refl

-- One of the bytes.
pub get_or-bytes_of : (width n at : ℕ) → at < width → get_or (bytes_of width n) at 0 ≡ byte_of n at
unfolding bytes_of
get_or-bytes_of zero n at h = absurd (omega arith)
get_or-bytes_of (suc k) n zero h = omega arith
get_or-bytes_of (suc k) n (suc at) h =
    get_or-bytes_of k (n / 256) at (omega arith)
    ∙ ap (λ m. m % 256) (shr-shr n 8 (8 * at) ∙ ap (λ m. n / 2 ^ m) (let e : 8 + 8 * at ≡ 8 * suc at = omega arith in e))

-- The bytes of a number in two parts.
pub bytes_of-add : (j k n : ℕ) → bytes_of (j + k) n ≡ bytes_of j n ++ bytes_of k (n / 2 ^ (8 * j))
unfolding bytes_of
bytes_of-add zero k n =
    let e : 0 + k ≡ k = omega arith in
    let d : n / 2 ^ (8 * 0) ≡ n = omega arith in
    rw (e, d) refl
bytes_of-add (suc j) k n =
    let e : suc j + k ≡ suc (j + k) = omega arith in
    let d : n / 256 / 2 ^ (8 * j) ≡ n / 2 ^ (8 * suc j) =
    shr-shr n 8 (8 * j) ∙ ap (λ m. n / 2 ^ m) (omega arith) in
    rw e (ap (λ bs. n % 256 ∷ bs) (bytes_of-add j k (n / 256) ∙ ap (λ m. bytes_of j (n / 256) ++ bytes_of k m) d))

-- The lowest bytes of a number are those of its remainder.
pub bytes_of-mod : (k n : ℕ) → bytes_of k (n % 2 ^ (8 * k)) ≡ bytes_of k n
unfolding bytes_of
bytes_of-mod zero n = refl
bytes_of-mod (suc k) n =
    let e : 8 * suc k ≡ 8 * k + 8 = omega arith in
    let low : n % 2 ^ (8 * suc k) % 256 ≡ n % 256 =
    rw (e, mod-pow-add n (8 * k) 8) (mod_low (n / 256 % 2 ^ (8 * k)) 8 (n % 256) (omega arith)) in
    let high : n % 2 ^ (8 * suc k) / 256 ≡ n / 256 % 2 ^ (8 * k) = rw e (field_of n (8 * k) 8) in
    rw (low, high, bytes_of-mod k (n / 256)) refl

-- The first bytes of a number's bytes.
pub take-bytes_of : (j k n : ℕ) → take j (bytes_of (j + k) n) ≡ bytes_of j n
take-bytes_of j k n = rw (bytes_of-add j k n) (take_at (bytes_of j n) (bytes_of k (n / 2 ^ (8 * j))) j (length-bytes_of j n))

-- The bytes of a number past the first ones.
pub drop-bytes_of : (j k n : ℕ) → drop j (bytes_of (j + k) n) ≡ bytes_of k (n / 2 ^ (8 * j))
drop-bytes_of j k n = rw (bytes_of-add j k n) (drop_at (bytes_of j n) (bytes_of k (n / 2 ^ (8 * j))) j (length-bytes_of j n))

-- ---- the number of bytes

-- The number of bytes in two parts.
pub number_of-append : (xs ys : List ℕ) → number_of (xs ++ ys) ≡ number_of xs + 2 ^ (8 * length xs) * number_of ys
number_of-append [] ys = omega arith
number_of-append (x ∷ xs) ys =
    let ih = number_of-append xs ys in
    rw (ih, pow_byte (length xs)) (omega arith)

-- Zeros make no number.
pub number_of-zeros : (k : ℕ) → number_of (replicate k 0) ≡ 0
number_of-zeros zero = refl
number_of-zeros (suc k) = omega (arith, number_of-zeros k)

-- Zeros behind bytes leave their number.
pub number_of-filled : (bytes : List ℕ) (k : ℕ) → number_of (bytes ++ replicate k 0) ≡ number_of bytes
number_of-filled bytes k = number_of-append bytes (replicate k 0) ∙ rw (number_of-zeros k) (omega arith)

-- The number of the lowest bytes of a number is its remainder.
pub number_of-bytes_of_mod : (k n : ℕ) → number_of (bytes_of k n) ≡ n % 2 ^ (8 * k)
unfolding bytes_of
number_of-bytes_of_mod zero n = omega arith
number_of-bytes_of_mod (suc k) n =
    let e : 8 * suc k ≡ 8 * k + 8 = omega arith in
    rw (number_of-bytes_of_mod k (n / 256), e, mod-pow-add n (8 * k) 8) (omega arith)

-- A number that fits is that of its bytes.
pub number_of-bytes_of : (k n : ℕ) → n < 2 ^ (8 * k) → number_of (bytes_of k n) ≡ n
number_of-bytes_of k n h = number_of-bytes_of_mod k n ∙ (let e : n % 2 ^ (8 * k) ≡ n = grind arith in e)

-- The number of bytes fits their count.
pub number_of-lt : (bytes : List ℕ) → AreBytes bytes → number_of bytes < 2 ^ (8 * length bytes)
number_of-lt [] h = lit< tt
number_of-lt (b ∷ bytes) h =
    let first = All-head (λ b. b < 256) b bytes h in
    let rest = number_of-lt bytes (All-tail (λ b. b < 256) b bytes h) in
    rw (pow_byte (length bytes)) (omega arith)

-- Bytes are those of their number.
pub bytes_of-number_of : (bytes : List ℕ) → AreBytes bytes → bytes_of (length bytes) (number_of bytes) ≡ bytes
unfolding bytes_of
bytes_of-number_of [] h = refl
bytes_of-number_of (b ∷ bytes) h =
    let first = All-head (λ b. b < 256) b bytes h in
    let low : (b + 256 * number_of bytes) % 256 ≡ b = omega arith in
    let high : (b + 256 * number_of bytes) / 256 ≡ number_of bytes = omega arith in
    rw (low, high, bytes_of-number_of bytes (All-tail (λ b. b < 256) b bytes h)) refl

-- ---- lanes of a word

-- A lane fits its width.
pub lane-lt : (word at width : ℕ) → lane word at width < 2 ^ (8 * width)
lane-lt word at width = mod_below (word / 2 ^ (8 * at)) (2 ^ (8 * width)) (pow_pos (8 * width))

-- The lane from byte 0 on as wide as the number is the number.
pub lane-whole : (n width : ℕ) → n < 2 ^ (8 * width) → lane n 0 width ≡ n
lane-whole n width h = let e : n / 2 ^ (8 * 0) ≡ n = omega arith in rw e (let d : n % 2 ^ (8 * width) ≡ n = grind arith in d)

-- A width from a place on, and what is left behind it, fill the whole.
filled : (n at width : ℕ) → at + width ≤ n → at + (width + (n - at - width)) ≡ n
filled n at width h = omega arith

lane_bytes : (at width rest word : ℕ) → bytes_of width (lane word at width) ≡ take width (drop at (bytes_of (at + (width + rest)) word))
lane_bytes at width rest word =
    bytes_of-mod width (word / 2 ^ (8 * at))
    ∙ sym (rw (drop-bytes_of at (width + rest) word) (take-bytes_of width rest (word / 2 ^ (8 * at))))

-- The bytes of a lane are those bytes of the word.
pub bytes_of-lane : (n at width word : ℕ) → at + width ≤ n → bytes_of width (lane word at width) ≡ take width (drop at (bytes_of n word))
bytes_of-lane n at width word h =
    lane_bytes at width (n - at - width) word ∙ ap (λ m. take width (drop at (bytes_of m word))) (filled n at width h)

-- A lane is the number of those bytes of the word.
pub lane-number_of : (n at width word : ℕ) → at + width ≤ n → lane word at width ≡ number_of (take width (drop at (bytes_of n word)))
lane-number_of n at width word h =
    sym (number_of-bytes_of width (lane word at width) (lane-lt word at width)) ∙ ap number_of (bytes_of-lane n at width word h)

-- ---- a word with bytes replaced

-- The bytes below the replaced ones, and what stands from them on.
replaced_parts : (at width word v : ℕ) → (replaced word at width v % 2 ^ (8 * at) ≡ word % 2 ^ (8 * at))
    × (replaced word at width v / 2 ^ (8 * at) ≡ word / 2 ^ (8 * (at + width)) * 2 ^ (8 * width) + v)
replaced_parts at width word v =
    let m = 2 ^ (8 * at) in
    let w = 2 ^ (8 * width) in
    let hi = word / 2 ^ (8 * (at + width)) in
    let lo : word % 2 ^ (8 * at) < 2 ^ (8 * at) = mod_below word (2 ^ (8 * at)) (pow_pos (8 * at)) in
    let e : replaced word at width v ≡ (hi * 2 ^ (8 * width) + v) * 2 ^ (8 * at) + word % 2 ^ (8 * at) =
    ap (λ p. hi * p + v * 2 ^ (8 * at) + word % 2 ^ (8 * at)) (pow_bytes at width) ∙ omega arith in (
      ap (λ n. n % 2 ^ (8 * at)) e ∙ mod_low (hi * 2 ^ (8 * width) + v) (8 * at) (word % 2 ^ (8 * at)) lo,
      ap (λ n. n / 2 ^ (8 * at)) e ∙ shr_high (hi * 2 ^ (8 * width) + v) (8 * at) (word % 2 ^ (8 * at)) lo,
    )

module _ (at width rest word v : ℕ) (h : v < 2 ^ (8 * width)) where
  replaced_bytes : bytes_of (at + (width + rest)) (replaced word at width v)
      ≡ bytes_of at word ++ (bytes_of width v ++ bytes_of rest (word / 2 ^ (8 * (at + width))))
  replaced_bytes =
      let parts = replaced_parts at width word v in
      let hi = word / 2 ^ (8 * (at + width)) in
      let low : bytes_of at (replaced word at width v) ≡ bytes_of at word =
      sym (bytes_of-mod at (replaced word at width v)) ∙ ap (bytes_of at) parts.0 ∙ bytes_of-mod at word in
      let mid : bytes_of width (hi * 2 ^ (8 * width) + v) ≡ bytes_of width v =
      sym (bytes_of-mod width (hi * 2 ^ (8 * width) + v)) ∙ ap (bytes_of width) (mod_low hi (8 * width) v h) in
      let high : bytes_of rest ((hi * 2 ^ (8 * width) + v) / 2 ^ (8 * width)) ≡ bytes_of rest hi =
      ap (bytes_of rest) (shr_high hi (8 * width) v h) in
      bytes_of-add at (width + rest) (replaced word at width v)
      ∙ ap (λ bs. bs ++ bytes_of (width + rest) (replaced word at width v / 2 ^ (8 * at))) low
      ∙ ap (λ n. bytes_of at word ++ bytes_of (width + rest) n) parts.1
      ∙ ap (λ bs. bytes_of at word ++ bs) (bytes_of-add width rest (hi * 2 ^ (8 * width) + v)
      ∙ ap (λ bs. bs ++ bytes_of rest ((hi * 2 ^ (8 * width) + v) / 2 ^ (8 * width))) mid ∙ ap (λ bs. bytes_of width v ++ bs) high)

  replaced_cut : bytes_of (at + (width + rest)) (replaced word at width v)
      ≡ take at (bytes_of (at + (width + rest)) word) ++ (bytes_of width v ++ drop (at + width) (bytes_of (at + (width + rest)) word))
  replaced_cut =
      let e : at + (width + rest) ≡ at + width + rest = omega arith in
      let last : drop (at + width) (bytes_of (at + (width + rest)) word) ≡ bytes_of rest (word / 2 ^ (8 * (at + width))) =
      ap (λ n. drop (at + width) (bytes_of n word)) e ∙ drop-bytes_of (at + width) rest word in
      replaced_bytes
      ∙ ap (λ bs. bs ++ (bytes_of width v ++ bytes_of rest (word / 2 ^ (8 * (at + width))))) (sym (take-bytes_of at (width + rest) word))
      ∙ ap (λ bs. take at (bytes_of (at + (width + rest)) word) ++ (bytes_of width v ++ bs)) (sym last)

-- The replaced bytes are those of what was put there, and the others stay.
pub bytes_of-replaced : (n at width word v : ℕ) → at + width ≤ n → v < 2 ^ (8 * width)
    → bytes_of n (replaced word at width v) ≡ take at (bytes_of n word) ++ (bytes_of width v ++ drop (at + width) (bytes_of n word))
bytes_of-replaced n at width word v fits h =
    let Cut : ℕ → Type 0 = λ m. bytes_of m (replaced word at width v)
    ≡ take at (bytes_of m word) ++ (bytes_of width v ++ drop (at + width) (bytes_of m word)) in
    subst Cut (filled n at width fits) (replaced_cut at width (n - at - width) word v h)

-- What was put there last stays.
pub replaced-replaced : (word at width v n : ℕ) → v < 2 ^ (8 * width) → replaced (replaced word at width v) at width n ≡ replaced word at width n
replaced-replaced word at width v n h =
    let parts = replaced_parts at width word v in
    let hi = word / 2 ^ (8 * (at + width)) in
    let r = replaced word at width v in
    let up : replaced word at width v / 2 ^ (8 * (at + width)) ≡ word / 2 ^ (8 * (at + width)) =
    ap (λ m. replaced word at width v / 2 ^ m) (let e : 8 * (at + width) ≡ 8 * at + 8 * width = omega arith in e)
    ∙ sym (shr-shr (replaced word at width v) (8 * at) (8 * width))
    ∙ ap (λ m. m / 2 ^ (8 * width)) parts.1
    ∙ shr_high hi (8 * width) v h in
    ap (λ m. m * 2 ^ (8 * (at + width)) + n * 2 ^ (8 * at) + r % 2 ^ (8 * at)) up
    ∙ ap (λ m. hi * 2 ^ (8 * (at + width)) + n * 2 ^ (8 * at) + m) parts.0

-- To put a lane's own number there changes nothing.
pub replaced-lane : (word at width : ℕ) → replaced word at width (lane word at width) ≡ word
replaced-lane word at width =
    let hi = word / 2 ^ (8 * (at + width)) in
    let up : word / 2 ^ (8 * at) / 2 ^ (8 * width) ≡ hi =
    shr-shr word (8 * at) (8 * width) ∙ ap (λ n. word / 2 ^ n) (omega arith) in
    let inner : hi * 2 ^ (8 * width) + lane word at width ≡ word / 2 ^ (8 * at) =
    ap (λ n. n * 2 ^ (8 * width) + lane word at width) (sym up) ∙ shr_split (word / 2 ^ (8 * at)) (8 * width) in
    ap (λ p. hi * p + lane word at width * 2 ^ (8 * at) + word % 2 ^ (8 * at)) (pow_bytes at width)
    ∙ (let e : hi * (2 ^ (8 * at) * 2 ^ (8 * width)) + lane word at width * 2 ^ (8 * at) + word % 2 ^ (8 * at)
    ≡ (hi * 2 ^ (8 * width) + lane word at width) * 2 ^ (8 * at) + word % 2 ^ (8 * at) = omega arith in e)
    ∙ ap (λ n. n * 2 ^ (8 * at) + word % 2 ^ (8 * at)) inner
    ∙ shr_split word (8 * at)

-- Two numbers side by side fit the two widths together.
pub side_by_side-lt : (hi lo j k : ℕ) → hi < 2 ^ k → lo < 2 ^ j → hi * 2 ^ j + lo < 2 ^ (j + k)
side_by_side-lt hi lo j k h l = rw (pow-add 2 j k) (mul-add-lt hi (2 ^ j) lo (2 ^ k) h l)

-- A word that fits its width still does with bytes replaced.
pub replaced-lt : (n at width word v : ℕ) → at + width ≤ n → word < 2 ^ (8 * n) → v < 2 ^ (8 * width) → replaced word at width v < 2 ^ (8 * n)
replaced-lt n at width word v fits w h =
    let rest = n - at - width in
    let m = replaced word at width v in
    let d : 8 * rest + 8 * (at + width) ≡ 8 * n = omega arith in
    let hi_small : word / 2 ^ (8 * (at + width)) < 2 ^ (8 * rest) = shr_below word (8 * rest) (8 * (at + width)) (rw d w) in
    let upper : word / 2 ^ (8 * (at + width)) * 2 ^ (8 * width) + v < 2 ^ (8 * width + 8 * rest) =
    side_by_side-lt (word / 2 ^ (8 * (at + width))) v (8 * width) (8 * rest) hi_small h in
    let parts = replaced_parts at width word v in
    let lo : m % 2 ^ (8 * at) < 2 ^ (8 * at) = mod_below m (2 ^ (8 * at)) (pow_pos (8 * at)) in
    let whole : m / 2 ^ (8 * at) * 2 ^ (8 * at) + m % 2 ^ (8 * at) < 2 ^ (8 * at + (8 * width + 8 * rest)) =
    side_by_side-lt (m / 2 ^ (8 * at)) (m % 2 ^ (8 * at)) (8 * at) (8 * width + 8 * rest) (rw parts.1 upper) lo in
    let e : 8 * at + (8 * width + 8 * rest) ≡ 8 * n = omega arith in
    rw (shr_split m (8 * at), e) at whole
