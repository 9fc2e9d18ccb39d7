-- Each word of a table is that of one place.
use Rattle.std.proofs.Common.{◌≡◌, ◌≢◌, ℕ, zero, suc, ◌+◌, ◌-◌, ◌*◌, ◌/◌, ◌%◌, ◌<◌, ◌≤◌, List, length, set, slice_index, refl, sym, ap, ◌∙◌, subst, arith, inl, inr, get_or-set_other, get_or-set_same, mul-le-mul_left}
use Rattle.std.proofs.lemmas.{Bool.{cases_lt}, Nat.{mul-add-lt, same_from_place, div-add-mod', mod_below, div_below}}
use mathlib.Core.Logic.{dite}
use native.Mathlib.Decide.{ℕ_discrete}
use Rattle.fm_words.specs.{declared.shape.Shape.{Shape}, Shapes.{IsValid}}
use Rattle.fm_words.specs.Places.{Place, front, draw, slot_bits, mark, gap, page_bits, session, given, map, number_bits, term, page_word, IsPlace, page_groups, groups, marks_from, sessions_from, given_from, maps_from, pages_from, page_bits_from, numbers_from, terms_from, at, words, NamesEachWordOnce}

-- Places lie within the table.
pub at-within : (z : Shape) (p : Place) → IsPlace z p → at z p < words z
unfolding at words
at-within z front h = omega arith
at-within z draw h = omega arith
at-within z slot_bits h = omega arith
at-within z (mark k) h = omega arith
at-within z (gap k i) h = let a = h.0 in let b = h.1 in omega arith
at-within z (session s) h = omega arith
at-within z (given s) h = omega arith
at-within z (map s i) h =
    let row = mul-add-lt s z.reach i z.slots h.0 h.1 in
    let below : s * z.reach + i < z.slots * z.reach = omega (arith, row) in
    omega arith
at-within z (page_word k w) h =
    let row = mul-add-lt k z.page_words w z.pages h.0 h.1 in
    let below : k * z.page_words + w < z.pages * z.page_words = omega (arith, row) in
    omega arith
at-within z (page_bits g) h = let n : ℕ = page_groups z in let l : g < n = h in omega arith
at-within z (number_bits g) h = let n : ℕ = groups z in let l : g < n = h in omega arith
at-within z (term k) h = let n : ℕ = groups z in omega arith

-- A map word stands before what follows the maps.
map-below : (z : Shape) (s i : ℕ) → IsPlace z (map s i) → maps_from z + (s * z.reach + i) < pages_from z
map-below z s i h =
    let row = mul-add-lt s z.reach i z.slots h.0 h.1 in
    let below : s * z.reach + i < z.slots * z.reach = omega (arith, row) in
    omega arith

-- A word of a page stands before what follows the pages.
page-below : (z : Shape) (k w : ℕ) → IsPlace z (page_word k w) → pages_from z + (k * z.page_words + w) < page_bits_from z
page-below z k w h =
    let row = mul-add-lt k z.page_words w z.pages h.0 h.1 in
    let below : k * z.page_words + w < z.pages * z.page_words = omega (arith, row) in
    omega arith

-- A word behind a mark is that of no other kind.
gap-else : (z : Shape) (k i : ℕ) (q : Place) → k < z.passes → i < 7 → IsPlace z q → at z (gap k i) ≡ at z q → (l : ℕ) × (j : ℕ) × (q ≡ gap l j)
unfolding at
gap-else z k i (gap l j) low few h e = (l, j, refl)
gap-else z k i _ low few h e = absurd (omega arith)

gap-same : (z : Shape) (k i l j : ℕ) → i < 7 → j < 7 → at z (gap k i) ≡ at z (gap l j) → gap k i ≡ gap l j
unfolding at
gap-same z k i l j few less e =
    let p : k ≡ l = omega arith in
    let q : i ≡ j = omega arith in
    λ n. gap (p n) (q n)

gap-one : (z : Shape) (k i : ℕ) (q : Place) → IsPlace z (gap k i) → IsPlace z q → at z (gap k i) ≡ at z q → gap k i ≡ q
gap-one z k i q a b e =
    let y = gap-else z k i q a.0 a.1 b e in
    gap-same z k i y.0 y.1 a.1 (subst (IsPlace z) y.2 b).1 (e ∙ ap (at z) y.2) ∙ sym y.2

-- Two places are never one word.
pub at-apart : (z : Shape) (p q : Place) → IsPlace z p → IsPlace z q → at z p ≡ at z q → p ≡ q
unfolding at
at-apart z front front a b e = refl
at-apart z draw draw a b e = refl
at-apart z slot_bits slot_bits a b e = refl
at-apart z (mark k) (mark i) a b e = let h : k ≡ i = omega arith in ap mark h
at-apart z (gap k i) q a b e = gap-one z k i q a b e
at-apart z p (gap k i) a b e = sym (gap-one z k i p b a (sym e))
at-apart z (session s) (session t) a b e = let h : s ≡ t = omega arith in ap session h
at-apart z (given s) (given t) a b e = let h : s ≡ t = omega arith in ap given h
at-apart z (map s i) (map t j) a b e =
    let place : s * z.reach + i ≡ t * z.reach + j = omega arith in
    let same = same_from_place s i t j z.reach a.1 b.1 place in
    λ n. map (same.0 n) (same.1 n)
at-apart z (map s i) (page_word k w) a b e = absurd (omega (arith, map-below z s i a))
at-apart z (page_word k w) (map s i) a b e = absurd (omega (arith, map-below z s i b))
at-apart z (map s i) (page_bits g) a b e = absurd (omega (arith, map-below z s i a))
at-apart z (page_bits g) (map s i) a b e = absurd (omega (arith, map-below z s i b))
at-apart z (map s i) (number_bits g) a b e = absurd (omega (arith, map-below z s i a))
at-apart z (number_bits g) (map s i) a b e = absurd (omega (arith, map-below z s i b))
at-apart z (map s i) (term k) a b e = absurd (omega (arith, map-below z s i a))
at-apart z (term k) (map s i) a b e = absurd (omega (arith, map-below z s i b))
at-apart z (page_word k w) (page_word i v) a b e =
    let place : k * z.page_words + w ≡ i * z.page_words + v = omega arith in
    let same = same_from_place k w i v z.page_words a.1 b.1 place in
    λ j. page_word (same.0 j) (same.1 j)
at-apart z (page_word k w) (page_bits g) a b e = absurd (omega (arith, page-below z k w a))
at-apart z (page_bits g) (page_word k w) a b e = absurd (omega (arith, page-below z k w b))
at-apart z (page_word k w) (number_bits g) a b e = absurd (omega (arith, page-below z k w a))
at-apart z (number_bits g) (page_word k w) a b e = absurd (omega (arith, page-below z k w b))
at-apart z (page_word k w) (term i) a b e = absurd (omega (arith, page-below z k w a))
at-apart z (term i) (page_word k w) a b e = absurd (omega (arith, page-below z k w b))
at-apart z (page_bits g) (page_bits h) a b e = let q : g ≡ h = omega arith in ap page_bits q
at-apart z (number_bits g) (number_bits h) a b e = let q : g ≡ h = omega arith in ap number_bits q
at-apart z (term k) (term i) a b e = let h : k ≡ i = omega arith in ap term h
at-apart z _ _ a b e = absurd (omega arith)

-- A product above a number has no factor 0.
positive : (a b n : ℕ) → n < a * b → 0 < b
positive a zero n h = absurd (omega arith)
positive a (suc b) n h = omega arith

-- A place at this word.
abbrev pub PlaceAt : Shape → ℕ → Type 0
PlaceAt z i = (p : Place) × IsPlace z p × (at z p ≡ i)

-- Where each kind of words begins, a word is of this kind or of a later one.
named_from_terms : (z : Shape) (i : ℕ) → terms_from z ≤ i → i < words z → PlaceAt z i
unfolding at words
named_from_terms z i h below = (term (i - terms_from z), omega arith, omega arith)

named_from_numbers : (z : Shape) (i : ℕ) → numbers_from z ≤ i → i < words z → PlaceAt z i
unfolding at
named_from_numbers z i h below = elim (cases_lt i (terms_from z)) [
  | inl l ↦ (number_bits (i - numbers_from z), omega arith, omega arith)
  | inr l ↦ named_from_terms z i l below
]

named_from_page_bits : (z : Shape) (i : ℕ) → page_bits_from z ≤ i → i < words z → PlaceAt z i
unfolding at
named_from_page_bits z i h below = elim (cases_lt i (numbers_from z)) [
  | inl l ↦ (page_bits (i - page_bits_from z), omega arith, omega arith)
  | inr l ↦ named_from_numbers z i l below
]

named_from_pages : (z : Shape) (i : ℕ) → pages_from z ≤ i → i < words z → PlaceAt z i
unfolding at
named_from_pages z i h below = elim (cases_lt i (page_bits_from z)) [
  | inl l ↦ (
      let n = i - pages_from z in
      let inside : i - pages_from z < z.pages * z.page_words = omega arith in
      let some : 0 < z.page_words = positive z.pages z.page_words n inside in
      let whole = div-add-mod' n z.page_words in
      let page = div_below n z.page_words z.pages some inside in
      (page_word (n / z.page_words) (n % z.page_words), (page, mod_below n z.page_words some), omega (arith, whole)))
  | inr l ↦ named_from_page_bits z i l below
]

named_from_maps : (z : Shape) (i : ℕ) → maps_from z ≤ i → i < words z → PlaceAt z i
unfolding at
named_from_maps z i h below = elim (cases_lt i (pages_from z)) [
  | inl l ↦ (
      let n = i - maps_from z in
      let inside : i - maps_from z < z.slots * z.reach = omega arith in
      let some : 0 < z.reach = positive z.slots z.reach n inside in
      let whole = div-add-mod' n z.reach in
      let slot = div_below n z.reach z.slots some inside in
      (map (n / z.reach) (n % z.reach), (slot, mod_below n z.reach some), omega (arith, whole)))
  | inr l ↦ named_from_pages z i l below
]

named_from_given : (z : Shape) (i : ℕ) → given_from z ≤ i → i < words z → PlaceAt z i
unfolding at
named_from_given z i h below = elim (cases_lt i (maps_from z)) [
  | inl l ↦ (given (i - given_from z), omega arith, omega arith)
  | inr l ↦ named_from_maps z i l below
]

named_from_sessions : (z : Shape) (i : ℕ) → sessions_from z ≤ i → i < words z → PlaceAt z i
unfolding at
named_from_sessions z i h below = elim (cases_lt i (given_from z)) [
  | inl l ↦ (session (i - sessions_from z), omega arith, omega arith)
  | inr l ↦ named_from_given z i l below
]

named_from_marks : (z : Shape) (i : ℕ) → marks_from ≤ i → i < words z → PlaceAt z i
unfolding at
named_from_marks z i h below = elim (cases_lt i (sessions_from z)) [
  | inl l ↦ (
      let n : ℕ = i - marks_from in
      dite (ℕ_discrete (n % 8) 0)
      (λ e. (mark (n / 8), omega arith, omega arith))
      (λ ne. (gap (n / 8) (n % 8 - 1), (omega arith, omega arith), omega arith)))
  | inr l ↦ named_from_sessions z i l below
]

-- Each word of the table has a place.
pub at-named : (z : Shape) (i : ℕ) → i < words z → PlaceAt z i
unfolding at
at-named z zero h = (front, tt, refl)
at-named z (suc zero) h = (draw, tt, refl)
at-named z (suc (suc zero)) h = (slot_bits, tt, refl)
at-named z (suc (suc (suc i))) h = named_from_marks z (suc (suc (suc i))) (omega arith) h

-- So the places name each word once.
pub every_word : (z : Shape) → NamesEachWordOnce z
every_word z = record { within = at-within z; apart = at-apart z; named = at-named z }

-- Whether two places of the table are one.
pub same_place : (z : Shape) (p q : Place) → IsPlace z p → IsPlace z q → Dec (p ≡ q)
same_place z p q a b = dite (ℕ_discrete (at z p) (at z q)) (λ e. yes (at-apart z p q a b e)) (λ ne. no (λ e. ne (ap (at z) e)))

-- A table has at most 3 + 64 + 8 * 4,096 + 128 + 64 * 4,096 + 64 + 4,096 + 2^24 words.
pub words-le : (z : Shape) → IsValid z → words z ≤ 17076483
unfolding words
words-le z v =
    let passes = v.passes.1 in let slots = v.slots.1 in let pages = v.words in
    let most : z.reach ≤ 4096 = (let a = v.reach.1 in let b = v.pages.1 in omega arith) in
    let all : z.pages ≤ 4096 = v.pages.1 in
    let maps : z.slots * z.reach ≤ z.slots * 4096 = mul-le-mul_left z.slots most in
    omega arith
