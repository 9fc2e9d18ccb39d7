-- Words that are kept of a record, in the list that they stand in.
use Rattle.std.proofs.Common.{◌≡◌, ℕ, ◌+◌, ◌<◌, ◌≤◌, Some, None, List, [], ◌∷◌, ◌++◌, length, take, drop, get_or, slice_set, sym, ap, ◌∙◌, arith}
use Rattle.std.proofs.lemmas.List.{length-append, length-take-le, take-append-drop, take-append-le, take-take, take_all, take_more, take_more_set}
use Rattle.fm_records.{specs.Words.{Seen, found_at, kept_all, most_words}, proofs.ByWords.{found_behind, found_first, found_one, found_other}}

-- one more stands behind those before it
pub kept_more : {kept : List Seen} (words : List Seen) (len : ℕ) (x : Seen) → take len words ≡ kept → length words ≡ 64 → len < 64
    → take (len + 1) (slice_set words len x) ≡ kept_all kept x
kept_more {kept} words len x is long below =
    let within : len < length words = omega (arith, long, below) in
    let few : length (kept ++ x ∷ []) ≤ 64 =
    omega (arith, length-append kept (x ∷ []), ap length is, length-take-le len words (omega (arith, within)), below) in
    take_more_set words len x within ∙ ap (λ ks. ks ++ x ∷ []) is ∙ sym (take_all most_words (kept ++ x ∷ []) few)

-- where there is no room, all stay
pub kept_full : {kept : List Seen} (words : List Seen) (len : ℕ) (x : Seen) → take len words ≡ kept → length words ≡ 64 → len ≤ 64 → 64 ≤ len
    → kept ≡ kept_all kept x
kept_full {kept} words len x is long few full =
    let all : length kept ≡ 64 = omega (arith, ap length is, length-take-le len words (omega (arith, long, few)), few, full) in
    sym (take-append-le most_words kept (x ∷ []) (omega (arith, all)) ∙ take_all most_words kept (omega (arith, all)))

-- ---- looking for a word

-- it is the next of them
pub found_next : {kept : List Seen} (words : List Seen) (len k : ℕ) (d : Seen) (word : ℕ) → take len words ≡ kept → length words ≡ 64 → len ≤ 64 → k < len
    → (get_or words k d).0 ≡ word → found_at (take k words) word ≡ None → Some (get_or words k d).1 ≡ found_at kept word
found_next {kept} words len k d word is long few below same none =
    let x = get_or words k d in
    let within : k < length words = omega (arith, long, few, below) in
    let first : take (k + 1) words ≡ take k words ++ get_or words k d ∷ [] = take_more words k d within in
    let there : found_at (take (k + 1) words) word ≡ Some (get_or words k d).1 =
    ap (λ ks. found_at ks word) first ∙ found_behind (take k words) (x ∷ []) word none ∙ ap (λ w. found_at (x ∷ []) w) (sym same) ∙ found_one x.0 x.1 in
    sym (ap (λ ks. found_at ks word) (sym is ∙ sym (take-append-drop (k + 1) (take len words)))
    ∙ found_first (take (k + 1) (take len words)) (drop (k + 1) (take len words)) word x.1
    (ap (λ ks. found_at ks word) (take-take (k + 1) len words (omega (arith, below))) ∙ there))

-- or it isn't
pub found_later : (words : List Seen) (k : ℕ) (d : Seen) (word : ℕ) → k < length words → ¬ ((get_or words k d).0 ≡ word)
    → found_at (take k words) word ≡ None → found_at (take (k + 1) words) word ≡ None
found_later words k d word within other none =
    let x = get_or words k d in
    ap (λ ks. found_at ks word) (take_more words k d within)
    ∙ found_behind (take k words) (x ∷ []) word none ∙ found_other x.0 x.1 word other
