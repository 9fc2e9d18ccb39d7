-- The words of bytes that are read some at a time, and the bytes of such words.
use Rattle.std.proofs.Common.{◌≡◌, inl, inr, ◌⊎◌, ℕ, zero, suc, ◌+◌, ◌-◌, ◌*◌, ◌<◌, ◌≤◌, List, [], ◌∷◌, ◌++◌, length, take, drop, replicate, refl, sym, ap, ◌∙◌, arith, append_assoc}
use Rattle.std.proofs.{lemmas.{Bool.{cases_lt}, List.{drop-take, length-drop, length-take-le, take-append-drop, take-take, take_all, take_at, Elements.{All-append, All-drop, All-take}}}, Math.Seq.{take-append-add, take-append_seam}}
use Rattle.fm_base_bytes.specs.{Bytes.{AreBytes, bytes_of, number_of}, Words.{bytes_in, word_count, words_from, words_of}}
use Rattle.fm_base_bytes.proofs.{Bytes.{AreBytes-bytes_of, bytes_of-number_of}, Words.{bytes_of-filled}}

-- The bytes of words are bytes.
pub AreBytes-bytes_in : (words : List ℕ) → AreBytes (bytes_in words)
unfolding bytes_in
AreBytes-bytes_in [] = λ k d h. absurd (omega (arith, h))
AreBytes-bytes_in (w ∷ ws) = All-append (λ b. b < 256) (bytes_of 8 w) (bytes_in ws) (AreBytes-bytes_of 8 w) (AreBytes-bytes_in ws)

-- Words of the first bytes, where these are enough for so many.
words_from-take : (count n : ℕ) (bytes : List ℕ) → 8 * count ≤ n → words_from count (take n bytes) ≡ words_from count bytes
unfolding words_from
words_from-take zero n bytes h = refl
words_from-take (suc count) n bytes h =
    let e : n ≡ 8 + (n - 8) = omega arith in
    let first : take 8 (take n bytes) ≡ take 8 bytes = take-take 8 n bytes (omega arith) in
    let rest : drop 8 (take n bytes) ≡ take (n - 8) (drop 8 bytes) = ap (λ k. drop 8 (take k bytes)) e ∙ drop-take 8 (n - 8) bytes in
    rw (first, rest, words_from-take count (n - 8) (drop 8 bytes) (omega arith)) refl

-- The words of the bytes behind k words, up to an end, as the first of a buffer hold them.
pub words_put : (bytes dst buffer : List ℕ) (k n end : ℕ) → length dst ≡ n → 8 * k ≤ end → end ≤ length bytes
    → n ≡ word_count (end - 8 * k) → (end ≡ 8 * (k + n)) ⊎ (end ≡ length bytes)
    → dst ≡ words_of (take (end - 8 * k) (drop (8 * k) bytes))
    → take n (dst ++ drop n buffer) ≡ words_from n (drop (8 * k) bytes)
words_put bytes dst buffer k n end size from within count last is =
    let rest = drop (8 * k) bytes in
    let long : length (drop (8 * k) bytes) ≡ length bytes - 8 * k = length-drop (8 * k) bytes in
    let len : length (take (end - 8 * k) rest) ≡ end - 8 * k = length-take-le (end - 8 * k) rest (omega (arith, long)) in
    let counted : words_of (take (end - 8 * k) rest) ≡ words_from n (take (end - 8 * k) rest) =
    ap (λ m. words_from m (take (end - 8 * k) rest)) (ap word_count len ∙ sym count) in
    let cut : words_from n (take (end - 8 * k) rest) ≡ words_from n rest = elim last [
      | inl full ↦ words_from-take n (end - 8 * k) rest (omega arith)
      | inr all ↦ ap (words_from n) (take_all (end - 8 * k) rest (omega (arith, long)))
    ] in
    take_at dst (drop n buffer) n size ∙ is ∙ counted ∙ cut

-- The bytes of so many words, of which these are the first.
pub first_bytes : (count : ℕ) (bytes : List ℕ) → AreBytes bytes → length bytes ≤ 8 * count → take (length bytes) (bytes_in (words_from count bytes)) ≡ bytes
unfolding bytes_in words_from
first_bytes zero [] are h = refl
first_bytes zero (b ∷ bytes) are h = absurd (omega arith)
first_bytes (suc count) bytes are h =
    let rest : List ℕ = bytes_in (words_from count (drop 8 bytes)) in
    elim (cases_lt (length bytes) 8) [
      | inl short ↦
          let whole : take 8 bytes ≡ bytes = take_all 8 bytes (omega arith) in
          let zeros : List ℕ = replicate (8 - length bytes) 0 in
          let word : bytes_of 8 (number_of (take 8 bytes)) ≡ bytes ++ replicate (8 - length bytes) 0 =
          ap (λ bs. bytes_of 8 (number_of bs)) whole ∙ bytes_of-filled 8 bytes are (omega arith) in
          ap (λ bs. take (length bytes) (bs ++ rest)) word ∙ ap (take (length bytes)) (append_assoc bytes zeros rest)
          ∙ take-append_seam bytes (zeros ++ rest)
      | inr long ↦
          let eight : length (take 8 bytes) ≡ 8 = length-take-le 8 bytes long in
          let word : bytes_of 8 (number_of (take 8 bytes)) ≡ take 8 bytes =
          ap (λ n. bytes_of n (number_of (take 8 bytes))) (sym eight) ∙ bytes_of-number_of (take 8 bytes) (All-take (λ b. b < 256) 8 bytes are) in
          let left : length (drop 8 bytes) ≡ length bytes - 8 = length-drop 8 bytes in
          let sum : length bytes ≡ length (take 8 bytes) + length (drop 8 bytes) = omega (arith, eight, left) in
          ap (λ bs. take (length bytes) (bs ++ rest)) word
          ∙ ap (λ n. take n (take 8 bytes ++ rest)) sum
          ∙ take-append-add (take 8 bytes) rest (length (drop 8 bytes))
          ∙ ap (λ bs. take 8 bytes ++ bs) (first_bytes count (drop 8 bytes) (All-drop (λ b. b < 256) 8 bytes are) (omega (arith, left)))
          ∙ take-append-drop 8 bytes
    ]
