-- Numbers of the shape that is made for two arenas.
use Rattle.std.proofs.Common.{◌≡◌, ℕ, zero, suc, ◌+◌, ◌*◌, ◌/◌, ◌%◌, ◌^◌, ◌<◌, ◌≤◌, max, min, refl, sym, ◌∙◌, subst, arith, pow_mono, pow-suc, lt_of_not-le, mul-le-mul_right}
use Rattle.std.{specs.Int.{IsPowerOfTwo}, proofs.lemmas.{Grind.{div_ceil_times}, Nat.{mul-le}}}
use mathlib.Core.Logic.{dite}
use native.Mathlib.Decide.{dec_le}
use Rattle.fm_pages.proofs.Exact.{part_first}
use Rattle.fm_rule_facts.specs.Scarcity.{parts_before}
use Rattle.fm_words.specs.{Shapes.{IsValid}, declared.shape.Shape.{Shape}}
use Rattle.fm_top_pooled.proofs.Lent.{parts_within}

-- how many runs of n cover a count
abbrev pub covering : ℕ → ℕ → ℕ
covering count n = count / n + min 1 (count % n)

-- Bytes have room in the words of their pages.
pub has_room : (size w reach : ℕ) → 0 < w → covering size (8 * w) ≤ reach → size ≤ reach * w * 8
has_room size w reach some fits =
    let parts = div_ceil_times size (8 * w) (omega arith) in
    let more : covering size (8 * w) * (8 * w) ≤ reach * (8 * w) = mul-le-mul_right (8 * w) fits in
    let below = parts.0 in
    omega arith

-- An arena of no more than the greatest takes at most 32 of the pages that are chosen for that.
pub few_parts : (size most w : ℕ) → 0 < w → size ≤ most → covering (covering most 8) 32 ≤ w → covering size (8 * w) ≤ 32
few_parts size most w some less wide = dite (dec_le (covering size (8 * w)) 32) (λ y. y) (λ not.
    let words = div_ceil_times most 8 (omega arith) in
    let pages = div_ceil_times (covering most 8) 32 (omega arith) in
    let parts = div_ceil_times size (8 * w) (omega arith) in
    let more : 33 * (8 * w) ≤ covering size (8 * w) * (8 * w) = mul-le-mul_right (8 * w) (lt_of_not-le not) in
    let words_hold = words.0 in
    let pages_hold = pages.0 in
    let below = parts.1 in
    absurd (omega arith))

-- Each part but the last begins before the bytes end, so there are no fewer.
least_parts : (z : Shape) (size n : ℕ) → 0 < z.page_words → n * (z.page_words * 8) < size + z.page_words * 8 → n ≤ parts_before z size
least_parts z size zero some fits = omega arith
least_parts z size (suc n) some fits =
    let next : (n + 1) * (z.page_words * 8) ≡ n * (z.page_words * 8) + z.page_words * 8 = omega arith in
    part_first z n size some (omega (arith, next, fits))

-- Parts are counted so.
pub parts_are : (z : Shape) (size : ℕ) → 0 < z.page_words → parts_before z size ≡ covering size (8 * z.page_words)
parts_are z size some =
    let n = covering size (8 * z.page_words) in
    let cover = div_ceil_times size (8 * z.page_words) (omega arith) in
    let hold = cover.0 in
    let spare = cover.1 in
    let most : parts_before z size ≤ n = parts_within z size n some (omega arith) in
    let least : n ≤ parts_before z size = least_parts z size n some (omega arith) in
    omega (arith, most, least)

-- The least power of two that is no less than a number is no greater than another one.
pub least_power : (w n k : ℕ) → IsPowerOfTwo w → w / 2 < max 1 n → n ≤ 2 ^ k → w ≤ 2 ^ k
least_power w n k (zero, is) least most =
    let one : w ≡ 1 = is in
    let some : 2 ^ 0 ≤ 2 ^ k = pow_mono {i = 0} {j = k} (omega arith) in
    omega arith
least_power w n k (suc j, is) least most = dite (dec_le (suc j) k) (λ y. subst (λ (x : ℕ). x ≤ 2 ^ k) (sym is) (pow_mono y)) (λ not.
    let more : 2 ^ k ≤ 2 ^ j = pow_mono {i = k} {j = j} (omega arith) in
    let some : 2 ^ 0 ≤ 2 ^ k = pow_mono {i = 0} {j = k} (omega arith) in
    let twice : w ≡ 2 ^ j * 2 = is ∙ pow-suc 2 j in
    absurd (omega arith))

-- Half a page that is longer than the least were too short.
pub short_page : (w most : ℕ) → IsPowerOfTwo w → w / 2 < max 1 (covering (covering most 8) 32) → 256 < w → 128 * w < most
short_page w most (zero, is) least long = absurd (omega (arith, is, long))
short_page w most (suc j, is) least long =
    let half = 2 ^ j in
    let twice : w ≡ half * 2 = is ∙ pow-suc 2 j in
    let words = div_ceil_times most 8 (omega arith) in
    let pages = div_ceil_times (covering most 8) 32 (omega arith) in
    let few_words = words.1 in
    let few_pages = pages.1 in
    omega arith

-- One slot, or two.
pub one_or_two : (beside slots : ℕ) → (beside ≡ 0 → slots ≡ 1) → (0 < beside → slots ≡ 2) → (0 < slots) × (slots ≤ 2)
one_or_two zero slots one two = let is = one refl in (omega (arith, is), omega (arith, is))
one_or_two (suc n) slots one two = let is = two (omega arith) in (omega (arith, is), omega (arith, is))

-- A pool can have a shape of at most 64 such pages.
pub can_be : (slots first second w : ℕ) → 0 < slots → slots ≤ 2 → 0 < first → first ≤ 32 → second ≤ 32 → 0 < w → w ≤ 262144
    → IsValid (record { passes = 17; slots = slots; pages = first + second; page_words = w; reach = max first second; generations = 1 })
can_be slots first second w some few one most more wide high =
    let all : (first + second) * w ≤ 64 * 262144 = mul-le (first + second) w 64 262144 (omega arith) high in
    record {
      passes = (omega arith, omega arith);
      slots = (omega arith, omega arith);
      pages = (omega arith, omega arith);
      page_words = (omega arith, omega arith);
      reach = (omega arith, omega arith);
      generations = (omega arith, omega arith);
      words = omega arith;
    }
