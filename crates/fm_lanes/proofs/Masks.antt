-- Bytes of a word that are replaced under a mask.
use Rattle.std.proofs.Common.{◌≡◌, ℕ, ◌+◌, ◌-◌, ◌*◌, ◌/◌, ◌%◌, ◌^◌, ◌<◌, ◌≤◌, bit_and, bit_or, refl, ap, sym, ◌∙◌, arith}
use Rattle.std.proofs.lemmas.Nat.{pow_pos, pow-add, and_block, or_block, and_mask, and_comm, or_comm, or_shifted, shr-shr, shr_split, mod_below, shr_below}
use Rattle.fm_base_bytes.specs.Bytes.{replaced}

-- A number below a power keeps itself under the mask of that power.
kept_by_mask : (n k : ℕ) → n < 2 ^ k → bit_and n (2 ^ k - 1) ≡ n
kept_by_mask n k h = and_mask n k ∙ (let e : n % 2 ^ k ≡ n = grind arith in e)

-- The bits of the middle taken out.
taken_out : (k j r hi mid lo : ℕ) → lo < 2 ^ k → mid < 2 ^ j → hi < 2 ^ r
    → bit_and ((hi * 2 ^ j + mid) * 2 ^ k + lo) (((2 ^ r - 1) * 2 ^ j + 0) * 2 ^ k + (2 ^ k - 1)) ≡ (hi * 2 ^ j) * 2 ^ k + lo
taken_out k j r hi mid lo l m h =
    let below : 2 ^ k - 1 < 2 ^ k = (let p = pow_pos k in omega arith) in
    let zero_in : 0 < 2 ^ j = pow_pos j in
    let outer = and_block k (hi * 2 ^ j + mid) ((2 ^ r - 1) * 2 ^ j + 0) lo (2 ^ k - 1) l below in
    let inner = and_block j hi (2 ^ r - 1) mid 0 m zero_in in
    let none : bit_and mid 0 ≡ 0 = and_comm mid 0 in
    outer ∙ rw (inner, kept_by_mask lo k l, kept_by_mask hi r h, none) (omega arith)

-- Bits put in where there are none.
put_in : (k j x v lo : ℕ) → lo < 2 ^ k → v < 2 ^ j → bit_or ((x * 2 ^ j) * 2 ^ k + lo) (v * 2 ^ k) ≡ (x * 2 ^ j + v) * 2 ^ k + lo
put_in k j x v lo l h =
    let e : v * 2 ^ k ≡ v * 2 ^ k + 0 = omega arith in
    let pos = pow_pos k in
    let none : bit_or lo 0 ≡ lo = or_comm lo 0 in
    ap (λ t. bit_or ((x * 2 ^ j) * 2 ^ k + lo) t) e ∙ (or_block k (x * 2 ^ j) v lo 0 l pos ∙ rw (or_shifted x j v h, none) refl)

rest_plain : (a b c : ℕ) → (a + 1) * (b + 1) * (c + 1) - 1 - b * (a + 1) ≡ (c * (b + 1) + 0) * (a + 1) + a
rest_plain a b c = omega arith

-- What is left of a word's ones without the middle.
rest_of_mask : (k j r : ℕ) → 2 ^ (k + j + r) - 1 - (2 ^ j - 1) * 2 ^ k ≡ ((2 ^ r - 1) * 2 ^ j + 0) * 2 ^ k + (2 ^ k - 1)
rest_of_mask k j r =
    let e : 2 ^ (k + j + r) ≡ 2 ^ k * 2 ^ j * 2 ^ r = pow-add 2 (k + j) r ∙ ap (λ t. t * 2 ^ r) (pow-add 2 k j) in
    let a = pow_pos k in let b = pow_pos j in let c = pow_pos r in
    let k' : 2 ^ k ≡ (2 ^ k - 1) + 1 = omega arith in
    let j' : 2 ^ j ≡ (2 ^ j - 1) + 1 = omega arith in
    let r' : 2 ^ r ≡ (2 ^ r - 1) + 1 = omega arith in
    let p = rest_plain (2 ^ k - 1) (2 ^ j - 1) (2 ^ r - 1) in
    rw e (rw (← k', ← j', ← r') at p)

masked_middle : (k j r word v : ℕ) → word < 2 ^ (k + j + r) → v < 2 ^ j
    → bit_or (bit_and word (2 ^ (k + j + r) - 1 - (2 ^ j - 1) * 2 ^ k)) (v * 2 ^ k) ≡ word / 2 ^ (k + j) * 2 ^ (k + j) + v * 2 ^ k + word % 2 ^ k
masked_middle k j r word v w h =
    let hi = word / 2 ^ k / 2 ^ j in
    let mid = word / 2 ^ k % 2 ^ j in
    let lo = word % 2 ^ k in
    let split : word ≡ (hi * 2 ^ j + mid) * 2 ^ k + lo = sym (rw (shr_split (word / 2 ^ k) j) (shr_split word k)) in
    let high : word / 2 ^ k / 2 ^ j ≡ word / 2 ^ (k + j) = shr-shr word k j in
    let hi_small : hi < 2 ^ r = rw high (shr_below word r (k + j) (let d : r + (k + j) ≡ k + j + r = omega arith in rw d w)) in
    let a = taken_out k j r hi mid lo (mod_below word (2 ^ k) (pow_pos k)) (mod_below (word / 2 ^ k) (2 ^ j) (pow_pos j)) hi_small in
    let masked : bit_and word (2 ^ (k + j + r) - 1 - (2 ^ j - 1) * 2 ^ k) ≡ (hi * 2 ^ j) * 2 ^ k + lo =
    ap (λ t. bit_and word t) (rest_of_mask k j r) ∙ (ap (λ t. bit_and t (((2 ^ r - 1) * 2 ^ j + 0) * 2 ^ k + (2 ^ k - 1))) split ∙ a) in
    let b = put_in k j hi v lo (mod_below word (2 ^ k) (pow_pos k)) h in
    let d : (hi * 2 ^ j + v) * 2 ^ k + lo ≡ hi * 2 ^ (k + j) + v * 2 ^ k + lo = rw (pow-add 2 k j) (omega arith) in
    ap (λ t. bit_or t (v * 2 ^ k)) masked ∙ (b ∙ (d ∙ ap (λ t. t * 2 ^ (k + j) + v * 2 ^ k + lo) high))

-- A word's bits outside the mask of some bytes, with `bits` of a number in them, are the word with these bytes replaced.
pub replaced-mask : (word at width v : ℕ) → at + width ≤ 8 → word < 2 ^ 64 → v < 2 ^ (8 * width)
    → bit_or (bit_and word (2 ^ 64 - 1 - (2 ^ (8 * width) - 1) * 2 ^ (8 * at))) (v * 2 ^ (8 * at)) ≡ replaced word at width v
replaced-mask word at width v fits w h =
    let r = 64 - (8 * at + 8 * width) in
    let e : 8 * at + 8 * width + r ≡ 64 = omega arith in
    let w' : word < 2 ^ (8 * at + 8 * width + r) = rw e w in
    let p = masked_middle (8 * at) (8 * width) r word v w' h in
    let d : 8 * at + 8 * width ≡ 8 * (at + width) = omega arith in
    rw (← d) (rw e at p)

-- The bits of a number lie under its mask.
pub bits-under_mask : (at width v : ℕ) → v < 2 ^ (8 * width)
    → bit_and (v * 2 ^ (8 * at)) ((2 ^ (8 * width) - 1) * 2 ^ (8 * at)) ≡ v * 2 ^ (8 * at)
bits-under_mask at width v h =
    let k = 8 * at in
    let z = pow_pos (8 * at) in
    let a : v * 2 ^ (8 * at) ≡ v * 2 ^ (8 * at) + 0 = omega arith in
    let b : (2 ^ (8 * width) - 1) * 2 ^ (8 * at) ≡ (2 ^ (8 * width) - 1) * 2 ^ (8 * at) + 0 = omega arith in
    ap (λ t. bit_and t ((2 ^ (8 * width) - 1) * 2 ^ (8 * at))) a
    ∙ (ap (λ t. bit_and (v * 2 ^ (8 * at) + 0) t) b
    ∙ (and_block (8 * at) v (2 ^ (8 * width) - 1) 0 0 z z ∙ rw (kept_by_mask v (8 * width) h) (omega arith)))
