-- Values by the words that were read.
use Rattle.std.proofs.Common.{◌≡◌, ℕ, ◌+◌, ◌-◌, ◌*◌, ◌/◌, ◌%◌, ◌^◌, ◌<◌, ◌≤◌, ◌==◌, Bool, true, false, if◌then◌else◌, Some, None, List, [], ◌∷◌, ◌++◌, length, map, drop, get_or, refl, sym, ap, ◌∙◌, subst, arith}
use Rattle.std.{specs.List.{range_with_len}, proofs.{Math.Pow.{pow_mono}, lemmas.{Bool.Decides.{nat_tests}, Grind.{same_number_lists}}}}
use Rattle.std.proofs.lemmas.List.{get_or-drop, get_or-take, length-append, map-append, Elements.{All-append}}
use Rattle.std.proofs.lemmas.{List.FromFn.{get_or-map-range_with_len, length-map-range_with_len}, Nat.{shl_whole}}
use Rattle.fm_base_bytes.specs.{Bytes.{bytes_of, lane, number_of as number_of_bytes}, Words.{byte_of}}
use Rattle.fm_base_bytes.proofs.Bytes.{AreBytes-bytes_of, bytes_of-lane, bytes_of-number_of, get_or-bytes_of, lane-lt, length-bytes_of, number_of-append, number_of-bytes_of}
use Rattle.fm_lanes.{specs.{Coding.{decoded, lowest_first, value_of}, Kind.{width_of}, Value.{number_of_value}}, proofs.Meaning.{width_of-bounds}}
use Rattle.fm_lanes.proofs.Turning.{turned_number}
use Rattle.fm_path.specs.declared.value_spec.ValueSpec.{ValueSpec}
use Rattle.fm_base_lists.proofs.Ranges.{range_append}
use Rattle.fm_records.specs.Words.{Seen, across, byte_by, bytes_by, found_at, number_by, number_of, or_zero}
use Rattle.fm_segment_access.proofs.Getting.{below_behind}

-- ---- what was found at a word

-- first of all among the first
pub found_first : (xs ys : List Seen) (w n : ℕ) → found_at xs w ≡ Some n → found_at (xs ++ ys) w ≡ Some n
found_first [] ys w n h = absurd (cc)
found_first (x ∷ xs) ys w n h = go (found_first xs ys w n) (x.0 == w) h
  where
    go : (found_at xs w ≡ Some n → found_at (xs ++ ys) w ≡ Some n) → (b : Bool) → (if b then Some x.1 else found_at xs w) ≡ Some n
        → (if b then Some x.1 else found_at (xs ++ ys) w) ≡ Some n
    go rest true e = e
    go rest false e = rest e

-- and behind them where it isn't one of those
pub found_behind : (xs ys : List Seen) (w : ℕ) → found_at xs w ≡ None → found_at (xs ++ ys) w ≡ found_at ys w
found_behind [] ys w h = refl
found_behind (x ∷ xs) ys w h = go (found_behind xs ys w) (x.0 == w) h
  where
    go : (found_at xs w ≡ None → found_at (xs ++ ys) w ≡ found_at ys w) → (b : Bool) → (if b then Some x.1 else found_at xs w) ≡ None
        → (if b then Some x.1 else found_at (xs ++ ys) w) ≡ found_at ys w
    go rest true e = absurd (cc)
    go rest false e = rest e

pub found_one : (w n : ℕ) → found_at ((w, n) ∷ []) w ≡ Some n
found_one w n = go (w == w) (grind (arith, nat_tests))
  where
    go : (b : Bool) → b ≡ true → (if b then Some n else None) ≡ Some n
    go true e = refl
    go false e = absurd (cc)

pub found_other : (v n w : ℕ) → ¬ (v ≡ w) → found_at ((v, n) ∷ []) w ≡ None
found_other v n w apart = go (v == w) (grind (arith, nat_tests))
  where
    go : (b : Bool) → b ≡ false → (if b then Some n else None) ≡ None
    go true e = absurd (cc)
    go false e = refl

-- ---- bytes in one word

module _ (seen : List Seen) (place width found : ℕ) (is : or_zero (found_at seen (place / 8)) ≡ found) (fits : place % 8 + width ≤ 8) where
  pub piece_by : bytes_by seen place width ≡ bytes_of width (lane found (place % 8) width)
  piece_by =
      let at = place % 8 in
      let left : length (bytes_by seen place width) ≡ width = length-map-range_with_len (byte_by seen) place width in
      let right : length (bytes_of width (lane found (place % 8) width)) ≡ width = length-bytes_of width (lane found (place % 8) width) in
      same_number_lists (bytes_by seen place width) (bytes_of width (lane found (place % 8) width)) (left ∙ sym right) (λ k short.
      let below : k < width = omega (arith, short, left) in
      let by_word : (place + k) / 8 ≡ place / 8 = omega (arith, fits, below) in
      let by_byte : (place + k) % 8 ≡ place % 8 + k = omega (arith, fits, below) in
      get_or-map-range_with_len (byte_by seen) place width k (place + k) 0 below refl
      ∙ ap (λ w. byte_of (or_zero (found_at seen w)) ((place + k) % 8)) by_word ∙ ap (λ n. byte_of n ((place + k) % 8)) is ∙ ap (byte_of found) by_byte
      ∙ sym (ap (λ bs. get_or bs k 0) (bytes_of-lane 8 at width found fits) ∙ get_or-take width (drop at (bytes_of 8 found)) k 0 below
      ∙ get_or-drop at (bytes_of 8 found) k 0 ∙ get_or-bytes_of 8 found (at + k) (omega (arith, below, fits))))

-- the number that bytes make, as it is meant
meant_as : (spec : ValueSpec) (n : ℕ) (bytes : List ℕ) → n < 2 ^ (8 * width_of spec.kind) → bytes_of (width_of spec.kind) n ≡ bytes
    → number_of spec n ≡ number_of_value (value_of spec.kind spec.order bytes)
meant_as spec n bytes small is =
    ap (λ m. number_of_value (decoded spec.kind m)) (turned_number (width_of spec.kind) n spec.order small
    ∙ ap (λ bs. number_of_bytes (lowest_first spec.order bs)) is)

pub inside_by : (seen : List Seen) (spec : ValueSpec) (place found : ℕ) → or_zero (found_at seen (place / 8)) ≡ found → place % 8 + width_of spec.kind ≤ 8
    → number_of spec (lane found (place % 8) (width_of spec.kind)) ≡ number_by seen spec place
inside_by seen spec place found is fits =
    let w = width_of spec.kind in
    meant_as spec (lane found (place % 8) w) (bytes_by seen place w) (lane-lt found (place % 8) w) (sym (piece_by seen place w found is fits))

-- ---- bytes in two words

-- the upper part keeps its bits where it is moved to, and both fit a word
pub record ArePlaced (low high shift : ℕ) : Type 0 where
  pub whole : high * 2 ^ shift % 2 ^ 64 ≡ high * 2 ^ shift
  pub fits : low + high * 2 ^ shift < 2 ^ 64

pub placed : (low high at width : ℕ) → at < 8 → 8 < at + width → width ≤ 8 → ArePlaced (lane low at (8 - at)) (lane high 0 (width - (8 - at))) (8 * (8 - at))
placed low high at width small crosses few =
    let first = 8 - at in
    let rest = width - (8 - at) in
    let lo = lane-lt low at first in
    let hi = lane-lt high 0 rest in
    let sum = below_behind (lane low at (8 - at)) (lane high 0 (width - (8 - at))) (8 - at) (width - (8 - at)) lo hi in
    let up : 2 ^ (8 * (8 - at + (width - (8 - at)))) ≤ 2 ^ 64 =
    (let le : 8 * (8 - at + (width - (8 - at))) ≤ 64 = omega (arith, small, crosses, few) in pow_mono le) in
    record {
      whole = shl_whole (lane high 0 (width - (8 - at))) (8 * (width - (8 - at))) (8 * (8 - at)) 64 hi (omega (arith, small, crosses, few));
      fits = omega (arith, sum, up);
    }

pub between_by : (seen : List Seen) (spec : ValueSpec) (place low high : ℕ) → or_zero (found_at seen (place / 8)) ≡ low
    → or_zero (found_at seen (place / 8 + 1)) ≡ high → 8 < place % 8 + width_of spec.kind
    → number_of spec (across low high (place % 8) (width_of spec.kind)) ≡ number_by seen spec place
between_by seen spec place low high is_low is_high crosses =
    let w = width_of spec.kind in
    let few = (width_of-bounds spec.kind).1 in
    let at = place % 8 in
    let first = 8 - at in
    let rest = w - first in
    let lo = lane low at first in
    let hi = lane high 0 rest in
    let there : (place + (8 - place % 8)) / 8 ≡ place / 8 + 1 = omega arith in
    let start : (place + (8 - place % 8)) % 8 ≡ 0 = omega arith in
    let sum : 8 - place % 8 + (width_of spec.kind - (8 - place % 8)) ≡ width_of spec.kind = omega (arith, crosses) in
    let lower : bytes_by seen place (8 - place % 8) ≡ bytes_of (8 - place % 8) (lane low (place % 8) (8 - place % 8)) =
    piece_by seen place first low is_low (omega arith) in
    let upper : bytes_by seen (place + (8 - place % 8)) (width_of spec.kind - (8 - place % 8))
    ≡ bytes_of (width_of spec.kind - (8 - place % 8)) (lane high 0 (width_of spec.kind - (8 - place % 8))) =
    piece_by seen (place + first) rest high (ap (λ v. or_zero (found_at seen v)) there ∙ is_high) (omega (arith, start, few))
    ∙ ap (λ a. bytes_of rest (lane high a rest)) start in
    let both : bytes_by seen place (width_of spec.kind)
    ≡ bytes_of (8 - place % 8) (lane low (place % 8) (8 - place % 8))
    ++ bytes_of (width_of spec.kind - (8 - place % 8)) (lane high 0 (width_of spec.kind - (8 - place % 8))) =
    ap (bytes_by seen place) (sym sum) ∙ ap (map (byte_by seen)) (range_append place first rest)
    ∙ map-append (byte_by seen) (range_with_len place first) (range_with_len (place + first) rest)
    ∙ ap (λ bs. bs ++ bytes_by seen (place + first) rest) lower ∙ ap (λ bs. bytes_of first lo ++ bs) upper in
    let bytes = bytes_of first lo ++ bytes_of rest hi in
    let long : length (bytes_of (8 - place % 8) (lane low (place % 8) (8 - place % 8))
    ++ bytes_of (width_of spec.kind - (8 - place % 8)) (lane high 0 (width_of spec.kind - (8 - place % 8)))) ≡ width_of spec.kind =
    omega (arith, length-append (bytes_of first lo) (bytes_of rest hi), length-bytes_of first lo, length-bytes_of rest hi, sum) in
    let number : number_of_bytes (bytes_of (8 - place % 8) (lane low (place % 8) (8 - place % 8))
    ++ bytes_of (width_of spec.kind - (8 - place % 8)) (lane high 0 (width_of spec.kind - (8 - place % 8))))
    ≡ across low high (place % 8) (width_of spec.kind) =
    number_of-append (bytes_of first lo) (bytes_of rest hi)
    ∙ rw (number_of-bytes_of first lo (lane-lt low at first), length-bytes_of first lo, number_of-bytes_of rest hi (lane-lt high 0 rest)) (omega arith) in
    let small = subst (λ (n : ℕ). across low high (place % 8) (width_of spec.kind) < 2 ^ (8 * n)) sum
    (below_behind lo hi first rest (lane-lt low at first) (lane-lt high 0 rest)) in
    let back : bytes_of (width_of spec.kind) (across low high (place % 8) (width_of spec.kind))
    ≡ bytes_of (8 - place % 8) (lane low (place % 8) (8 - place % 8))
    ++ bytes_of (width_of spec.kind - (8 - place % 8)) (lane high 0 (width_of spec.kind - (8 - place % 8))) =
    ap (bytes_of w) (sym number) ∙ ap (λ k. bytes_of k (number_of_bytes bytes)) (sym long)
    ∙ bytes_of-number_of bytes (All-append (λ b. b < 256) (bytes_of first lo) (bytes_of rest hi) (AreBytes-bytes_of first lo) (AreBytes-bytes_of rest hi)) in
    meant_as spec (across low high at w) (bytes_by seen place w) small (back ∙ sym both)
