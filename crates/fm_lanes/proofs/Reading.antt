-- The numbers that `byteorder` reads are those of the bytes.
use Rattle.std.proofs.Common.{◌≡◌, ℕ, zero, suc, ◌+◌, ◌-◌, ◌*◌, ◌/◌, ◌%◌, ◌<◌, ◌≤◌, List, [], ◌∷◌, ◌++◌, length, take, drop, get_or, set, slice_index, refl, sym, ap, ◌∙◌, arith, inl, inr}
use Rattle.std.proofs.lemmas.Bool.{cases_lt}
use Rattle.std.proofs.lemmas.List.{drop_more, drop_all, take_all, get_or_past, length-drop, ext_get_or, set-append_right, append-nil, drop-take, take-take, take_rest}
use Rattle.byteorder.specs.Endian.{little_from, little_number}
use Rattle.fm_base_bytes.specs.{Bytes.{number_of}, Words.{words_from, words_of, word_count}}
use Rattle.fm_base_bytes.proofs.Words.{length-words_from, get_or-words_from, words_from-more}

no_bytes : (n : ℕ) (bytes : List ℕ) → bytes ≡ [] → number_of (take n bytes) ≡ 0
no_bytes n bytes e = ap (λ bs. number_of (take n bs)) e ∙ ap number_of (take_all n [] (omega arith))

-- What is read from a place on is the number of the bytes there; past the end there are none.
little_from-number_of : (i n : ℕ) (bytes : List ℕ) → little_from i n bytes ≡ number_of (take n (drop i bytes))
little_from-number_of i zero bytes = refl
little_from-number_of i (suc n) bytes =
    let e : suc i ≡ i + 1 = omega arith in
    let ih = little_from-number_of (suc i) n bytes in
    elim (cases_lt i (length bytes)) [
      | inl h ↦
          rw (drop_more bytes i 0 h) (ap (λ m. slice_index bytes i + 256 * m) (ih ∙ ap (λ m. number_of (take n (drop m bytes))) e))
      | inr h ↦
          let here : slice_index bytes i ≡ 0 = get_or_past bytes i 0 h in
          let rest : little_from (suc i) n bytes ≡ 0 = ih ∙ no_bytes n (drop (suc i) bytes) (drop_all (suc i) bytes (omega arith)) in
          omega (arith, here, rest, no_bytes (suc n) (drop i bytes) (drop_all i bytes h))
    ]

-- The number of the first bytes.
pub little_number-number_of : (n : ℕ) (bytes : List ℕ) → little_number n bytes ≡ number_of (take n bytes)
little_number-number_of n bytes = little_from-number_of 0 n bytes

-- A list of the numbers of each eight bytes is that of the words.
pub whole_words : (dst bytes : List ℕ) (whole : ℕ) → length dst ≡ whole → 8 * whole ≤ length bytes
    → ((k : ℕ) → k < length dst → slice_index dst k ≡ little_number 8 (drop (8 * k) (take (8 * whole) bytes)))
    → dst ≡ words_from whole bytes
whole_words dst bytes whole len fits each =
    ext_get_or 0 dst (words_from whole bytes) (len ∙ sym (length-words_from whole bytes)) (λ k h.
    let cut : take 8 (drop (8 * k) (take (8 * whole) bytes)) ≡ take 8 (drop (8 * k) bytes) =
    ap (λ n. take 8 (drop (8 * k) (take n bytes))) (let e : 8 * whole ≡ 8 * k + (8 * whole - 8 * k) = omega arith in e)
    ∙ ap (take 8) (drop-take (8 * k) (8 * whole - 8 * k) bytes)
    ∙ take-take 8 (8 * whole - 8 * k) (drop (8 * k) bytes) (omega arith) in
    each k h ∙ little_number-number_of 8 (drop (8 * k) (take (8 * whole) bytes)) ∙ ap number_of cut
    ∙ sym (get_or-words_from whole k bytes (omega arith)))

-- Whole words alone.
pub words_even : (dst bytes into : List ℕ) → dst ≡ words_from (length bytes / 8) bytes → length into ≡ word_count (length bytes) → length bytes % 8 ≤ 0
    → dst ++ drop (length bytes / 8) into ≡ words_of bytes
words_even dst bytes into e len even =
    let count : word_count (length bytes) ≡ length bytes / 8 = omega arith in
    ap (λ ws. dst ++ ws) (drop_all (length bytes / 8) into (omega arith)) ∙ append-nil dst ∙ e ∙ ap (λ n. words_from n bytes) (sym count)

one_left : (xs : List ℕ) → length xs ≡ 1 → xs ≡ get_or xs 0 0 ∷ []
one_left [] e = absurd (omega arith)
one_left (x ∷ []) e = refl
one_left (x ∷ y ∷ xs) e = absurd (omega arith)

-- Whole words and a last one of fewer bytes.
pub words_odd : (dst bytes into : List ℕ) (last : ℕ) → length dst ≡ length bytes / 8 → dst ≡ words_from (length bytes / 8) bytes
    → length into ≡ word_count (length bytes) → 0 < length bytes % 8
    → last ≡ little_number (length bytes % 8) (drop (8 * (length bytes / 8)) bytes)
    → set (dst ++ drop (length bytes / 8) into) (length bytes / 8) last ≡ words_of bytes
words_odd dst bytes into last len e into_len odd is =
    let whole = length bytes / 8 in
    let tail = drop (8 * (length bytes / 8)) bytes in
    let count : word_count (length bytes) ≡ length bytes / 8 + 1 = omega arith in
    let tail_len : length (drop (8 * (length bytes / 8)) bytes) ≡ length bytes % 8 = omega (arith, length-drop (8 * (length bytes / 8)) bytes) in
    let one : drop (length bytes / 8) into ≡ get_or (drop (length bytes / 8) into) 0 0 ∷ [] =
    one_left (drop (length bytes / 8) into) (omega (arith, length-drop (length bytes / 8) into)) in
    let at : length bytes / 8 - length bytes / 8 ≡ 0 = omega arith in
    let same : number_of (take (length bytes % 8) tail) ≡ number_of (take 8 tail) =
    ap number_of (take_all (length bytes % 8) tail (omega arith) ∙ sym (take_all 8 tail (omega arith))) in
    set-append_right dst (drop whole into) whole whole last len (omega arith)
    ∙ ap (λ n. dst ++ set (drop whole into) n last) at
    ∙ ap (λ ws. dst ++ set ws 0 last) one
    ∙ ap (λ ws. ws ++ (last ∷ [])) e
    ∙ ap (λ n. words_from whole bytes ++ (n ∷ [])) (is ∙ little_number-number_of (length bytes % 8) tail ∙ same)
    ∙ sym (words_from-more whole bytes)
    ∙ ap (λ n. words_from n bytes) (sym count)

-- The bytes past the whole words, as the code cuts them.
pub little_tail : (bytes : List ℕ)
    → little_number (length bytes % 8) (take (length bytes - 8 * (length bytes / 8)) (drop (8 * (length bytes / 8)) bytes))
    ≡ little_number (length bytes % 8) (drop (8 * (length bytes / 8)) bytes)
little_tail bytes = ap (little_number (length bytes % 8)) (take_rest bytes (8 * (length bytes / 8)))
