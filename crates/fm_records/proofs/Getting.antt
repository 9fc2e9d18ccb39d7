-- A value that is got of words that are kept and words that are read.
use Rattle.std.proofs.Common.{◌≡◌, ℕ, ◌+◌, ◌/◌, ◌%◌, ◌<◌, ◌≤◌, ◌==◌, Bool, true, false, if◌then◌else◌, Option, Some, None, Ok, Err, Result, List, [], ◌∷◌, ◌++◌, map, refl, sym, ap, ◌∙◌, subst, inl, inr, arith}
use Rattle.std.{specs.Prelude.{ℤ, nat_le}, proofs.lemmas.{Bool.{cases_lt, Decides.{nat_tests}}, List.{append-nil, map-append}}}
use Rattle.fm_base.specs.{declared.refusal.Refusal.{Refusal, TheVariants.{Closed}}, View.{View}}
use Rattle.fm_base_bytes.specs.Bytes.{lane}
use Rattle.fm_lanes.{specs.Kind.{width_of}, proofs.Meaning.{width_of-bounds}}
use Rattle.fm_base_lists.specs.Among.{IsAmong}
use Rattle.fm_path.specs.declared.value_spec.ValueSpec.{ValueSpec}
use Rattle.fm_segment.specs.Region.{Region}
use Rattle.fm_records.specs.Reads.{Fetches, GetsNumber, ReadsNumber, Sees}
use Rattle.fm_records.specs.Words.{Seen, IsKnownAs, across, found_at, if_new, kept_after, number_of, or_zero, unkept, unless_found, words_at}
use Rattle.fm_records.proofs.{ByWords.{between_by, found_behind, found_first, found_one, found_other, inside_by}, Seeing.{sees_err, sees_ok, sees_on}}

-- ---- the words of a value

pub words_inside : (place width : ℕ) → place % 8 + width ≤ 8 → words_at place width ≡ (place / 8) ∷ []
words_inside place width fits = ap (λ b. if b then (place / 8) ∷ [] else (place / 8) ∷ (place / 8 + 1) ∷ []) (test (place % 8 + width) fits)
  where
    test : (n : ℕ) → n ≤ 8 → nat_le n 8 ≡ true
    test n h = grind (arith, nat_tests)

pub words_across : (place width : ℕ) → 8 < place % 8 + width → words_at place width ≡ (place / 8) ∷ (place / 8 + 1) ∷ []
words_across place width crosses = ap (λ b. if b then (place / 8) ∷ [] else (place / 8) ∷ (place / 8 + 1) ∷ []) (test (place % 8 + width) crosses)
  where
    test : (n : ℕ) → 8 < n → nat_le n 8 ≡ false
    test n h = grind (arith, nat_tests)

-- ---- one word, known or read

fetched_words : (known : Option ℕ) (word found : ℕ) (more : List ℕ) → map (λ x. x.0) (if_new known word found) ++ more ≡ unless_found known word more
fetched_words None word found more = refl
fetched_words (Some n) word found more = refl

-- what was found there stands among all
fetched_there : (k more : List Seen) (word found : ℕ) (known : Option ℕ) → known ≡ found_at k word → IsKnownAs known found
    → found_at (k ++ (if_new known word found ++ more)) word ≡ Some found
fetched_there k more word found None is known_is =
    found_behind k ((word, found) ∷ more) word (sym is) ∙ found_first ((word, found) ∷ []) more word found (found_one word found)
fetched_there k more word found (Some n) is known_is = found_first k more word n (sym is) ∙ ap Some (sym known_is)

-- also behind another word
fetched_behind : (k : List Seen) (v n word found : ℕ) (before known : Option ℕ) → ¬ (v ≡ word) → known ≡ found_at k word → IsKnownAs known found
    → found_at (k ++ (if_new before v n ++ if_new known word found)) word ≡ Some found
fetched_behind k v n word found None None apart is known_is =
    found_behind k ((v, n) ∷ (word, found) ∷ []) word (sym is) ∙ found_behind ((v, n) ∷ []) ((word, found) ∷ []) word (found_other v n word apart)
    ∙ found_one word found
fetched_behind k v n word found (Some m) None apart is known_is = found_behind k ((word, found) ∷ []) word (sym is) ∙ found_one word found
fetched_behind k v n word found before (Some m) apart is known_is = found_first k (if_new before v n ++ []) word m (sym is) ∙ ap Some (sym known_is)

-- what is kept of some and those behind them
pub kept_on : (keeps : List Seen → Seen → List Seen) (k xs ys : List Seen)
    → kept_after keeps k (xs ++ ys) ≡ kept_after keeps (kept_after keeps k xs) ys
kept_on keeps k [] ys = refl
kept_on keeps k (x ∷ xs) ys = kept_on keeps (keeps k x) xs ys

-- ---- a value in one word

module _ {old new : View} {s : Region} {spec : ValueSpec} {place : ℕ} (keeps : List Seen → Seen → List Seen) (k l : List Seen) (fits : place % 8
    + width_of spec.kind ≤ 8) {known : Option ℕ} (is : known ≡ found_at k (place / 8)) where
  pub got_inside : (found : ℕ) (z : ℤ) → l ≡ kept_after keeps k (if_new known (place / 8) found)
      → z ≡ number_of spec (lane found (place % 8) (width_of spec.kind)) → Sees old new s (Fetches known (place / 8)) (Ok found)
      → Sees old new s (λ r own. GetsNumber keeps k spec place r own l) (Ok z)
  got_inside found z kept value d =
      let W = width_of spec.kind in
      sees_ok (Fetches known (place / 8)) (λ r own. GetsNumber keeps k spec place r own l) found z d (λ f.
      let there : found_at (k ++ d.does.seen) (place / 8) ≡ Some found =
      ap (λ xs. found_at (k ++ xs) (place / 8)) (f.0 ∙ sym (append-nil (if_new known (place / 8) found))) ∙ fetched_there k [] (place / 8) found known is f.1 in
      record {
        words = sym (append-nil (map (λ x. x.0) d.does.seen)) ∙ ap (λ xs. map (λ x. x.0) xs ++ []) f.0 ∙ fetched_words known (place / 8) found []
            ∙ ap (λ o. unless_found o (place / 8) []) is ∙ ap (unkept k) (sym (words_inside place W fits));
        number = value ∙ inside_by (k ++ d.does.seen) spec place found (ap or_zero there) fits;
        kept = kept ∙ ap (kept_after keeps k) (sym f.0);
      })

  -- or the arena was found closed
  pub closed_inside : (r : Refusal) → Sees old new s (Fetches known (place / 8)) (Err r) → Sees old new s (λ e own. GetsNumber keeps k spec place e own l) (Err r)
  closed_inside r d = sees_err (Fetches known (place / 8)) (λ e own. GetsNumber keeps k spec place e own l) r d (by r d.does.seen)
    where
      by : (e : Refusal) (own : List Seen) → Fetches known (place / 8) (Err e) own → GetsNumber keeps k spec place (Err e) own l
      by Closed own f = record {
        word = place / 8;
        behind = [];
        words = ap (λ xs. map (λ x. x.0) xs ++ (place / 8) ∷ []) f.1 ∙ ap (λ o. unless_found o (place / 8) []) (sym f.0 ∙ is)
            ∙ ap (unkept k) (sym (words_inside place (width_of spec.kind) fits));
      }
      by e own f = absurd f

-- ---- a value in two

-- the second word behind the first
record Both (known above : Option ℕ) (place low : ℕ) (r : Result ℕ Refusal) (own : List Seen) : Type 0 where
  more : List Seen
  parts : own ≡ if_new known (place / 8) low ++ more
  first : IsKnownAs known low
  second : Fetches above (place / 8 + 1) r more

both_fetched : {old now new : View} {s : Region} {known above : Option ℕ} (place low : ℕ) (d : Sees old now s (Fetches known (place / 8)) (Ok low))
    (r : Result ℕ Refusal) → Sees now new s (Fetches above (place / 8 + 1)) r → Sees old new s (Both known above place low) r
both_fetched {known = known} {above = above} place low d r e =
    sees_on (Fetches above (place / 8 + 1)) (Both known above place low) r d e (λ f. record {
      more = e.does.seen;
      parts = ap (λ xs. xs ++ e.does.seen) d.does.does.0;
      first = d.does.does.1;
      second = f;
    })

module _ (spec : ValueSpec) (place : ℕ) (keeps : List Seen → Seen → List Seen) (k l : List Seen) (crosses : 8 < place % 8
    + width_of spec.kind) {known above : Option ℕ} (is : known ≡ found_at k (place / 8)) (is_above : above ≡ found_at k (place / 8 + 1)) where
  pub closed_low : {old new : View} {s : Region} (r : Refusal) → Sees old new s (Fetches known (place / 8)) (Err r)
      → Sees old new s (λ e own. GetsNumber keeps k spec place e own l) (Err r)
  closed_low r d = sees_err (Fetches known (place / 8)) (λ e own. GetsNumber keeps k spec place e own l) r d (by r d.does.seen)
    where
      by : (e : Refusal) (own : List Seen) → Fetches known (place / 8) (Err e) own → GetsNumber keeps k spec place (Err e) own l
      by Closed own f = record {
        word = place / 8;
        behind = unkept k ((place / 8 + 1) ∷ []);
        words = ap (λ xs. map (λ x. x.0) xs ++ (place / 8) ∷ unkept k ((place / 8 + 1) ∷ [])) f.1
            ∙ ap (λ o. unless_found o (place / 8) (unkept k ((place / 8 + 1) ∷ []))) (sym f.0 ∙ is)
            ∙ ap (unkept k) (sym (words_across place (width_of spec.kind) crosses));
      }
      by e own f = absurd f

  high_closed : (low : ℕ) (r : Refusal) (own : List Seen) → Both known above place low (Err r) own → GetsNumber keeps k spec place (Err r) own l
  high_closed low Closed own b =
      let f = b.second in
      record {
        word = place / 8 + 1;
        behind = [];
        words = ap (λ xs. map (λ x. x.0) xs ++ (place / 8 + 1) ∷ [])
            (b.parts ∙ ap (λ ys. if_new known (place / 8) low ++ ys) f.1 ∙ append-nil (if_new known (place / 8) low))
            ∙ fetched_words known (place / 8) low ((place / 8 + 1) ∷ [])
            ∙ ap (λ o. unless_found known (place / 8) (unless_found o (place / 8 + 1) [])) (sym f.0 ∙ is_above)
            ∙ ap (λ o. unless_found o (place / 8) (unkept k ((place / 8 + 1) ∷ []))) is
            ∙ ap (unkept k) (sym (words_across place (width_of spec.kind) crosses));
      }
  high_closed low r own b = absurd b.second

  pub closed_high : {old now new : View} {s : Region} (low : ℕ) (d : Sees old now s (Fetches known (place / 8)) (Ok low)) (r : Refusal)
      → Sees now new s (Fetches above (place / 8 + 1)) (Err r) → Sees old new s (λ e own. GetsNumber keeps k spec place e own l) (Err r)
  closed_high low d r e =
      let two = both_fetched place low d (Err r) e in
      sees_err (Both known above place low) (λ x own. GetsNumber keeps k spec place x own l) r two (high_closed low r two.does.seen)

  both_read : (low high : ℕ) (z : ℤ) (own : List Seen)
      → l ≡ kept_after keeps (kept_after keeps k (if_new known (place / 8) low)) (if_new above (place / 8 + 1) high)
      → z ≡ number_of spec (across low high (place % 8) (width_of spec.kind)) → Both known above place low (Ok high) own → ReadsNumber keeps k spec place own z l
  both_read low high z own kept value b =
      let f = b.second in
      let both : own ≡ if_new known (place / 8) low ++ if_new above (place / 8 + 1) high = b.parts ∙ ap (λ ys. if_new known (place / 8) low ++ ys) f.0 in
      let apart : ¬ (place / 8 ≡ place / 8 + 1) = λ same. absurd (omega (arith, same)) in
      let is_low : found_at (k ++ own) (place / 8) ≡ Some low =
      ap (λ xs. found_at (k ++ xs) (place / 8)) both ∙ fetched_there k (if_new above (place / 8 + 1) high) (place / 8) low known is b.first in
      let is_high : found_at (k ++ own) (place / 8 + 1) ≡ Some high =
      ap (λ xs. found_at (k ++ xs) (place / 8 + 1)) both ∙ fetched_behind k (place / 8) low (place / 8 + 1) high known above apart is_above f.1 in
      record {
        words = ap (map (λ x. x.0)) both ∙ map-append (λ x. x.0) (if_new known (place / 8) low) (if_new above (place / 8 + 1) high)
            ∙ ap (λ xs. map (λ x. x.0) (if_new known (place / 8) low) ++ xs) (sym (append-nil (map (λ x. x.0) (if_new above (place / 8 + 1) high)))
            ∙ fetched_words above (place / 8 + 1) high [])
            ∙ fetched_words known (place / 8) low (unless_found above (place / 8 + 1) [])
            ∙ ap (λ o. unless_found known (place / 8) (unless_found o (place / 8 + 1) [])) is_above
            ∙ ap (λ o. unless_found o (place / 8) (unkept k ((place / 8 + 1) ∷ []))) is
            ∙ ap (unkept k) (sym (words_across place (width_of spec.kind) crosses));
        number = value ∙ between_by (k ++ own) spec place low high (ap or_zero is_low) (ap or_zero is_high) crosses;
        kept = kept ∙ sym (kept_on keeps k (if_new known (place / 8) low) (if_new above (place / 8 + 1) high)) ∙ ap (kept_after keeps k) (sym both);
      }

  pub got_across : {old now new : View} {s : Region} (low : ℕ) (d : Sees old now s (Fetches known (place / 8)) (Ok low)) (high : ℕ) (z : ℤ)
      → l ≡ kept_after keeps (kept_after keeps k (if_new known (place / 8) low)) (if_new above (place / 8 + 1) high)
      → z ≡ number_of spec (across low high (place % 8) (width_of spec.kind)) → Sees now new s (Fetches above (place / 8 + 1)) (Ok high)
      → Sees old new s (λ r own. GetsNumber keeps k spec place r own l) (Ok z)
  got_across low d high z kept value e =
      let two = both_fetched place low d (Ok high) e in
      sees_ok (Both known above place low) (λ r own. GetsNumber keeps k spec place r own l) high z two (both_read low high z two.does.seen kept value)

-- ---- each word of a value is known or read

-- the word is one of these
abbrev pub IsFoundAmong : List Seen → ℕ → Type 0
IsFoundAmong seen w = (n : ℕ) × (found_at seen w ≡ Some n)

pub found_mapped : (xs : List Seen) (w : ℕ) → IsAmong w (map (λ x. x.0) xs) → IsFoundAmong xs w
found_mapped [] w a = absurd a
found_mapped (x ∷ xs) w a = go (found_mapped xs w) (x.0 == w) refl
  where
    go : (IsAmong w (map (λ y. y.0) xs) → IsFoundAmong xs w) → (b : Bool) → (x.0 == w) ≡ b → (n : ℕ) × ((if b then Some x.1 else found_at xs w) ≡ Some n)
    go rest true e = (x.1, refl)
    go rest false e = elim a [
      | inl here ↦ let no : (x.0 == w) ≡ true = grind (arith, nat_tests, here) in absurd (cc)
      | inr there ↦ rest there
    ]

-- a word that isn't kept is one of those that are read
kept_or_read : (k : List Seen) (ws : List ℕ) (w : ℕ) → IsAmong w ws → found_at k w ≡ None → IsAmong w (unkept k ws)
kept_or_read k [] w a none = absurd a
kept_or_read k (v ∷ ws) w (inl is) none =
    subst (λ (o : Option ℕ). IsAmong w (unless_found o v (unkept k ws))) (sym none ∙ ap (found_at k) is) (inl is)
kept_or_read k (v ∷ ws) w (inr a) none = behind (found_at k v) (kept_or_read k ws w a none)
  where
    behind : (o : Option ℕ) → IsAmong w (unkept k ws) → IsAmong w (unless_found o v (unkept k ws))
    behind None h = inr h
    behind (Some n) h = h

pub word_found : (k own : List Seen) (ws : List ℕ) (w : ℕ) → map (λ x. x.0) own ≡ unkept k ws → IsAmong w ws → IsFoundAmong (k ++ own) w
word_found k own ws w words a = go (found_at k w) refl
  where
    go : (o : Option ℕ) → found_at k w ≡ o → IsFoundAmong (k ++ own) w
    go None e =
        let read = found_mapped own w (subst (λ (vs : List ℕ). IsAmong w vs) (sym words) (kept_or_read k ws w a e)) in
        (read.0, found_behind k own w e ∙ read.1)
    go (Some n) e = (n, found_first k own w n e)

pub among_words : (place width j : ℕ) → j < width → width ≤ 8 → IsAmong ((place + j) / 8) (words_at place width)
among_words place width j below few = elim (cases_lt 8 (place % 8 + width)) [
  | inl crosses ↦
      subst (λ (ws : List ℕ). IsAmong ((place + j) / 8) ws) (sym (words_across place width crosses)) (elim (cases_lt (place % 8 + j) 8) [
        | inl low ↦ inl (omega (arith, low))
        | inr high ↦ inr (inl (omega (arith, high, below, few)))
      ])
  | inr fits ↦
      subst (λ (ws : List ℕ). IsAmong ((place + j) / 8) ws) (sym (words_inside place width fits)) (inl (omega (arith, fits, below)))
]

pub words_found : (keeps : List Seen → Seen → List Seen) (k l : List Seen) (spec : ValueSpec) (place : ℕ) (own : List Seen) (n : ℤ)
    → ReadsNumber keeps k spec place own n l → (j : ℕ) → j < width_of spec.kind → IsFoundAmong (k ++ own) ((place + j) / 8)
words_found keeps k l spec place own n r j below =
    word_found k own (words_at place (width_of spec.kind)) ((place + j) / 8) r.words
    (among_words place (width_of spec.kind) j below (width_of-bounds spec.kind).1)
