-- The words of bytes and the bytes of words.
use Rattle.std.proofs.Common.{◌≡◌, ℕ, zero, suc, ◌+◌, ◌-◌, ◌*◌, ◌/◌, ◌%◌, ◌^◌, ◌<◌, ◌≤◌, lit<, List, [], ◌∷◌, ◌++◌, length, take, drop, get_or, set, replicate, refl, sym, ap, ◌∙◌, arith, inl, inr}
use Rattle.std.proofs.lemmas.List.{append_assoc, take_at, drop_at, take_all, drop_all, drop-drop, take-append-le, drop-append-le, length-append, length-drop, length-take-le, length-replicate, take-append-drop, set_split, drop_more, get_or-take, get_or-drop}
use Rattle.std.proofs.{lemmas.{List.Elements.{All-append, All-replicate}, Bool.{cases_lt}}, Math.Seq.{take-add}}
use Rattle.fm_base_bytes.specs.{Bytes.{AreBytes, bytes_of, number_of, lane, replaced}, Words.{byte_of, bytes_in, words_from}}
use Rattle.fm_base_bytes.proofs.Bytes.{length-bytes_of, bytes_of-number_of, number_of-filled, bytes_of-lane, bytes_of-replaced, get_or-bytes_of}

-- ---- the bytes of words

-- Each word has eight bytes.
pub length-bytes_in : (words : List ℕ) → length (bytes_in words) ≡ 8 * length words
unfolding bytes_in
length-bytes_in [] = refl
length-bytes_in (w ∷ words) =
    omega (arith, length-append (bytes_of 8 w) (bytes_in words), length-bytes_of 8 w, length-bytes_in words)

-- Words one after the other.
pub bytes_in-append : (xs ys : List ℕ) → bytes_in (xs ++ ys) ≡ bytes_in xs ++ bytes_in ys
unfolding bytes_in
bytes_in-append [] ys = refl
bytes_in-append (x ∷ xs) ys =
    ap (λ bs. bytes_of 8 x ++ bs) (bytes_in-append xs ys) ∙ sym (append_assoc (bytes_of 8 x) (bytes_in xs) (bytes_in ys))

bytes_in-none : bytes_in [] ≡ []
unfolding bytes_in
bytes_in-none = refl

bytes_in-more : (word : ℕ) (words : List ℕ) → bytes_in (word ∷ words) ≡ bytes_of 8 word ++ bytes_in words
unfolding bytes_in
bytes_in-more word words = refl

module _ (w : ℕ) (words : List ℕ) where
  -- The bytes of words are those before a word and those from it on.
  parted : bytes_in words ≡ bytes_in (take w words) ++ bytes_in (drop w words)
  parted = ap bytes_in (sym (take-append-drop w words)) ∙ bytes_in-append (take w words) (drop w words)

  length-before : w < length words → length (bytes_in (take w words)) ≡ 8 * w
  length-before h = length-bytes_in (take w words) ∙ ap (λ n. 8 * n) (length-take-le w words (omega arith))

  -- The bytes of the first words are the first bytes.
  pub take-bytes_in : take (8 * w) (bytes_in words) ≡ bytes_in (take w words)
  take-bytes_in = elim (cases_lt w (length words)) [
    | inl h ↦ ap (take (8 * w)) parted ∙ take_at (bytes_in (take w words)) (bytes_in (drop w words)) (8 * w) (length-before h)
    | inr h ↦ take_all (8 * w) (bytes_in words) (omega (arith, length-bytes_in words)) ∙ ap bytes_in (sym (take_all w words h))
  ]

  -- The bytes from a word on are those of the words from there on.
  pub drop-bytes_in : drop (8 * w) (bytes_in words) ≡ bytes_in (drop w words)
  drop-bytes_in = elim (cases_lt w (length words)) [
    | inl h ↦ ap (drop (8 * w)) parted ∙ drop_at (bytes_in (take w words)) (bytes_in (drop w words)) (8 * w) (length-before h)
    | inr h ↦
        drop_all (8 * w) (bytes_in words) (omega (arith, length-bytes_in words)) ∙ sym (ap bytes_in (drop_all w words h) ∙ bytes_in-none)
  ]

-- The bytes from a word on begin with its eight.
bytes_from : (w : ℕ) (words : List ℕ) → w < length words → drop (8 * w) (bytes_in words) ≡ bytes_of 8 (get_or words w 0) ++ bytes_in (drop (w + 1) words)
bytes_from w words h =
    drop-bytes_in w words ∙ ap bytes_in (drop_more words w 0 h) ∙ bytes_in-more (get_or words w 0) (drop (w + 1) words)

-- The bytes of a run that lies in one word are those of the word's lane.
pub bytes_in-lane : (words : List ℕ) (w at width : ℕ) → w < length words → at + width ≤ 8
    → take width (drop (8 * w + at) (bytes_in words)) ≡ bytes_of width (lane (get_or words w 0) at width)
bytes_in-lane words w at width h fits =
    let word = get_or words w 0 in
    let room : at ≤ length (bytes_of 8 word) = omega (arith, length-bytes_of 8 word) in
    let left : width ≤ length (drop at (bytes_of 8 word)) = omega (arith, length-bytes_of 8 word, length-drop at (bytes_of 8 word)) in
    ap (take width) (sym (drop-drop at (8 * w) (bytes_in words)) ∙ ap (drop at) (bytes_from w words h)
    ∙ drop-append-le at (bytes_of 8 word) (bytes_in (drop (w + 1) words)) room)
    ∙ take-append-le width (drop at (bytes_of 8 word)) (bytes_in (drop (w + 1) words)) left
    ∙ sym (bytes_of-lane 8 at width word fits)

-- The eight bytes of a word.
pub bytes_in-word : (words : List ℕ) (w : ℕ) → w < length words
    → take 8 (drop (8 * w) (bytes_in words)) ≡ bytes_of 8 (get_or words w 0)
bytes_in-word words w h =
    let word = get_or words w 0 in
    ap (take 8) (bytes_from w words h) ∙ take_at (bytes_of 8 word) (bytes_in (drop (w + 1) words)) 8 (length-bytes_of 8 word)

-- The byte at a place of words.
pub get_or-bytes_in : (words : List ℕ) (place : ℕ) → place / 8 < length words
    → get_or (bytes_in words) place 0 ≡ byte_of (get_or words (place / 8) 0) (place % 8)
get_or-bytes_in words place h =
    let w : ℕ = place / 8 in
    let at : ℕ = place % 8 in
    let inside : at < 8 = omega arith in
    ap (λ n. get_or (bytes_in words) n 0) (let e : place ≡ 8 * w + at = omega arith in e)
    ∙ sym (get_or-take 8 (drop (8 * w) (bytes_in words)) at 0 inside ∙ get_or-drop (8 * w) (bytes_in words) at 0)
    ∙ ap (λ bs. get_or bs at 0) (bytes_in-word words w h) ∙ get_or-bytes_of 8 (get_or words w 0) at inside

-- A word that is set has its eight bytes changed, and no other.
pub bytes_in-set : (words : List ℕ) (w v : ℕ) → w < length words
    → bytes_in (set words w v) ≡ take (8 * w) (bytes_in words) ++ (bytes_of 8 v ++ drop (8 * w + 8) (bytes_in words))
bytes_in-set words w v h =
    let e : 8 * w + 8 ≡ 8 * suc w = omega arith in
    ap bytes_in (set_split words w v h)
    ∙ bytes_in-append (take w words) (v ∷ drop (suc w) words)
    ∙ ap (λ bs. bytes_in (take w words) ++ bs) (bytes_in-more v (drop (suc w) words))
    ∙ ap (λ bs. bs ++ (bytes_of 8 v ++ bytes_in (drop (suc w) words))) (sym (take-bytes_in w words))
    ∙ ap (λ bs. take (8 * w) (bytes_in words) ++ (bytes_of 8 v ++ bs)) (sym (ap (λ n. drop n (bytes_in words)) e ∙ drop-bytes_in (suc w) words))

five : (a b c d e : List ℕ) → a ++ ((b ++ (c ++ d)) ++ e) ≡ (a ++ b) ++ (c ++ (d ++ e))
five a b c d e = simp append_assoc

-- A run of bytes in one word that is replaced there is replaced among all bytes.
pub bytes_in-replaced : (words : List ℕ) (w at width v : ℕ) → w < length words → at + width ≤ 8 → v < 2 ^ (8 * width)
    → bytes_in (set words w (replaced (get_or words w 0) at width v))
    ≡ take (8 * w + at) (bytes_in words) ++ (bytes_of width v ++ drop (8 * w + at + width) (bytes_in words))
bytes_in-replaced words w at width v h fits small =
    let word = get_or words w 0 in
    let all = bytes_in words in
    let eight = bytes_of 8 word in
    let rest = bytes_in (drop (w + 1) words) in
    let from = bytes_from w words h in
    let room : at ≤ length eight = omega (arith, length-bytes_of 8 word) in
    let room_after : at + width ≤ length eight = omega (arith, length-bytes_of 8 word) in
    let before : take (8 * w + at) all ≡ take (8 * w) all ++ take at eight =
    take-add (8 * w) at all ∙ ap (λ bs. take (8 * w) all ++ bs) (ap (take at) from ∙ take-append-le at eight rest room) in
    let after : drop (8 * w + at + width) all ≡ drop (at + width) eight ++ rest =
    ap (λ n. drop n all) (let e : 8 * w + at + width ≡ 8 * w + (at + width) = omega arith in e)
    ∙ sym (drop-drop (at + width) (8 * w) all) ∙ ap (drop (at + width)) from
    ∙ drop-append-le (at + width) eight rest room_after in
    let last : drop (8 * w + 8) all ≡ rest =
    sym (drop-drop 8 (8 * w) all) ∙ ap (drop 8) from ∙ drop_at eight rest 8 (length-bytes_of 8 word) in
    bytes_in-set words w (replaced word at width v) h
    ∙ ap (λ bs. take (8 * w) all ++ (bs ++ drop (8 * w + 8) all)) (bytes_of-replaced 8 at width word v fits small)
    ∙ ap (λ bs. take (8 * w) all ++ ((take at eight ++ (bytes_of width v ++ drop (at + width) eight)) ++ bs)) last
    ∙ five (take (8 * w) all) (take at eight) (bytes_of width v) (drop (at + width) eight) rest
    ∙ ap (λ bs. bs ++ (bytes_of width v ++ (drop (at + width) eight ++ rest))) (sym before)
    ∙ ap (λ bs. take (8 * w + at) all ++ (bytes_of width v ++ bs)) (sym after)

-- ---- the words of bytes

-- As many words as were asked for.
pub length-words_from : (count : ℕ) (bytes : List ℕ) → length (words_from count bytes) ≡ count
unfolding words_from
length-words_from zero bytes = refl
length-words_from (suc count) bytes = ap suc (length-words_from count (drop 8 bytes))

-- Word w is the number of the bytes 8w to 8w + 7.
pub get_or-words_from : (count w : ℕ) (bytes : List ℕ) → w < count → get_or (words_from count bytes) w 0 ≡ number_of (take 8 (drop (8 * w) bytes))
unfolding words_from
get_or-words_from zero w bytes h = absurd (omega arith)
get_or-words_from (suc count) zero bytes h = refl
get_or-words_from (suc count) (suc w) bytes h =
    let e : 8 + 8 * w ≡ 8 * suc w = omega arith in
    get_or-words_from count w (drop 8 bytes) (omega arith)
    ∙ ap (λ bs. number_of (take 8 bs)) (drop-drop (8 * w) 8 bytes ∙ ap (λ n. drop n bytes) e)

-- The words of the bytes behind so many words come last.
pub words_from-append : (count more : ℕ) (bytes : List ℕ) → words_from (count + more) bytes ≡ words_from count bytes ++ words_from more (drop (8 * count) bytes)
unfolding words_from
words_from-append zero more bytes = let e : zero + more ≡ more = omega arith in rw e refl
words_from-append (suc count) more bytes =
    let e : suc count + more ≡ suc (count + more) = omega arith in
    let d : 8 + 8 * count ≡ 8 * suc count = omega arith in
    rw e (ap (λ ws. number_of (take 8 bytes) ∷ ws) (words_from-append count more (drop 8 bytes)
    ∙ ap (λ bs. words_from count (drop 8 bytes) ++ words_from more bs) (drop-drop (8 * count) 8 bytes ∙ ap (λ n. drop n bytes) d)))

-- One word more.
pub words_from-more : (count : ℕ) (bytes : List ℕ) → words_from (count + 1) bytes ≡ words_from count bytes ++ (number_of (take 8 (drop (8 * count) bytes)) ∷ [])
unfolding words_from
words_from-more count bytes = words_from-append count 1 bytes

-- The bytes of the number of fewer bytes are these and zeros.
pub bytes_of-filled : (width : ℕ) (bytes : List ℕ) → AreBytes bytes → length bytes ≤ width
    → bytes_of width (number_of bytes) ≡ bytes ++ replicate (width - length bytes) 0
bytes_of-filled width bytes h fits =
    let filled = bytes ++ replicate (width - length bytes) 0 in
    let len : length (bytes ++ replicate (width - length bytes) 0) ≡ width =
    omega (arith, length-append bytes (replicate (width - length bytes) 0), length-replicate {A = ℕ} (width - length bytes) 0) in
    let are : AreBytes (bytes ++ replicate (width - length bytes) 0) =
    All-append (λ b. b < 256) bytes (replicate (width - length bytes) 0) h (All-replicate (λ b. b < 256) (width - length bytes) 0 (lit< tt)) in
    ap (bytes_of width) (sym (number_of-filled bytes (width - length bytes)))
    ∙ ap (λ n. bytes_of n (number_of (bytes ++ replicate (width - length bytes) 0))) (sym len)
    ∙ bytes_of-number_of (bytes ++ replicate (width - length bytes) 0) are
