-- Values in words, from the code's bits.
use Rattle.std.proofs.Common.{◌≡◌, ◌≢◌, ◌==◌, Bool, true, false, MatchBool, ℕ, ◌+◌, ◌-◌, ◌*◌, ◌%◌, ◌^◌, ◌<◌, ◌≤◌, bit_and, bit_or, ℤ, pos, negsuc, SFits, w64, sym, ap, subst, ◌∙◌, arith}
use Rattle.std.proofs.lemmas.Bool.{eqb-true, eqb-false}
use Rattle.fm_base_bytes.{specs.{Bytes.{number_of, lane, replaced}, Signed.{FitsBytes, signed_of, unsigned_of}}, proofs.Bytes.{lane-whole}}
use Rattle.fm_base_bytes.proofs.Signed.{unsigned_of-lt, signed_of-unsigned_of}
use Rattle.fm_lanes.specs.declared.{order.Order.{Order}, value.Value.{Value, TheVariants.{Long}}, value_kind.ValueKind.{ValueKind}}
use Rattle.fm_lanes.{specs.{Coding.{decoded, encoded, turned, bytes_of_value}, Kind.{width_of}, Value.{kind_of}}, proofs.Masks.{replaced-mask}}
use Rattle.fm_lanes.proofs.{Meaning.{value_of-lane}, Turning.{turned_number, turned-lt_width, turned-turned}}
use Rattle.fm_lanes.specs.declared.value_kind.ValueKind.TheVariants as kind
use Rattle.fm_handle.specs.Acts.{value_in, with_value, word_of}

-- A lane that is turned and decoded.
pub read_value : (k : ValueKind) (o : Order) (word at : ℕ) {width n m : ℕ} {v : Value} → at + width_of k ≤ 8 → width ≡ width_of k → n ≡ lane word at width
    → m ≡ turned width n o → v ≡ decoded k m → v ≡ value_in k o at word
read_value k o word at {width} fits w e t d =
    d ∙ ap (decoded k) (t ∙ ap (λ j. turned width j o) e ∙ ap (λ j. turned j (lane word at j) o) w) ∙ value_of-lane k o word at fits

-- The number of a value's bytes.
pub number_is : (o : Order) (v : Value) {width n m : ℕ} → width ≡ width_of (kind_of v) → n ≡ encoded v → n < 2 ^ (8 * width_of (kind_of v))
    → m ≡ turned width n o → (m ≡ number_of (bytes_of_value o v)) × (m < 2 ^ (8 * width_of (kind_of v)))
number_is o v {width} {n} {m} w e fits t =
    let k = width_of (kind_of v) in
    let s : m ≡ turned (width_of (kind_of v)) (encoded v) o = t ∙ ap (λ j. turned width j o) e ∙ ap (λ j. turned j (encoded v) o) w in
    let small : encoded v < 2 ^ (8 * width_of (kind_of v)) = subst (λ (j : ℕ). j < 2 ^ (8 * k)) e fits in
    (s ∙ turned_number k (encoded v) o small, subst (λ (j : ℕ). j < 2 ^ (8 * k)) (sym s) (turned-lt_width k (encoded v) o small))

-- A word's bits outside a mask, with those of a value in them.
pub put_value_in : (o : Order) (v : Value) (word at : ℕ) {width mask bits n m : ℕ} → at + width_of (kind_of v) ≤ 8 → word < 2 ^ 64
    → width ≡ width_of (kind_of v) → n ≡ encoded v → n < 2 ^ (8 * width_of (kind_of v)) → m ≡ turned width n o
    → mask ≡ (2 ^ (8 * width) - 1) * 2 ^ (8 * at) → bits ≡ m % 2 ^ (8 * width) * 2 ^ (8 * at)
    → bit_or (bit_and word (2 ^ 64 - 1 - mask)) bits ≡ with_value o v at word
put_value_in o v word at {width} {mask} {bits} {n} {m} fits small w e f t is_mask is_bits =
    let k = width_of (kind_of v) in
    let num = number_is o v w e f t in
    let keeps : m % 2 ^ (8 * width_of (kind_of v)) ≡ m = (let below = num.1 in grind arith) in
    let mask_is : mask ≡ (2 ^ (8 * width_of (kind_of v)) - 1) * 2 ^ (8 * at) = is_mask ∙ ap (λ j. (2 ^ (8 * j) - 1) * 2 ^ (8 * at)) w in
    let bits_are : bits ≡ m * 2 ^ (8 * at) = is_bits ∙ ap (λ j. m % 2 ^ (8 * j) * 2 ^ (8 * at)) w ∙ ap (λ j. j * 2 ^ (8 * at)) keeps in
    ap (λ j. bit_or (bit_and word (2 ^ 64 - 1 - j)) bits) mask_is ∙ ap (λ j. bit_or (bit_and word (2 ^ 64 - 1 - (2 ^ (8 * k) - 1) * 2 ^ (8 * at))) j) bits_are
    ∙ replaced-mask word at k m fits small num.1 ∙ ap (replaced word at k) num.0

-- The test of the codes of two values of one kind is the test of the values.
pub tested_value : (a b : Value) (m n : ℕ) (t : Bool) → (m == n) ≡ t → kind_of a ≡ kind_of b → m ≡ encoded a → n ≡ encoded b → decoded (kind_of a) m ≡ a
    → decoded (kind_of b) n ≡ b → MatchBool t (a ≡ b) (a ≢ b)
tested_value a b m n true t k d e p q = sym p ∙ ap (λ j. decoded j m) k ∙ ap (decoded (kind_of b)) (eqb-true m n t) ∙ q
tested_value a b m n false t k d e p q = λ same. eqb-false m n t (d ∙ ap encoded same ∙ sym e)

-- A long has a two's complement in a word.
fits_word : (z : ℤ) → SFits w64 z → FitsBytes 8 z
fits_word (pos n) f = f.sfits
fits_word (negsuc n) f = f.sfits

-- The word of a long means it.
pub word_means : (o : Order) (z : ℤ) → SFits w64 z → value_in kind.Long o 0 (word_of o z) ≡ Long z
word_means o z fits =
    let f = fits_word z fits in
    let small : unsigned_of 8 z < 2 ^ 64 = unsigned_of-lt 8 z (omega arith) f in
    let keeps : unsigned_of 8 z % 2 ^ 64 ≡ unsigned_of 8 z = omega arith in
    let word : word_of o z ≡ turned 8 (unsigned_of 8 z) o = sym (turned_number 8 (unsigned_of 8 z) o small) in
    let below : turned 8 (unsigned_of 8 z) o < 2 ^ 64 = turned-lt_width 8 (unsigned_of 8 z) o small in
    sym (value_of-lane kind.Long o (word_of o z) 0 (omega arith))
    ∙ ap (λ w. decoded kind.Long (turned 8 (lane w 0 8) o)) word
    ∙ ap (λ w. decoded kind.Long (turned 8 w o)) (lane-whole (turned 8 (unsigned_of 8 z) o) 8 below)
    ∙ ap (decoded kind.Long) (turned-turned 8 (unsigned_of 8 z) o)
    ∙ ap (λ m. Long (signed_of 8 m)) keeps
    ∙ ap Long (signed_of-unsigned_of 8 z (omega arith) f)
