-- The first byte in which two numbers or two lists differ, found piece by piece.
use Rattle.std.proofs.Common.{◌≡◌, ◌≢◌, ℕ, suc, ◌+◌, ◌-◌, ◌*◌, ◌/◌, ◌^◌, ◌<◌, if◌then◌else◌, List, [], ◌∷◌, ◌++◌, length, refl, ap, sym, ◌∙◌, arith, append_assoc, Option, Some, None}
use Rattle.std.{specs.Option.{option_map}, proofs.lemmas.Bool.{eq-eqb, ne_eqb}}
use Rattle.fm_base_bytes.specs.Bytes.{bytes_of, number_of, lane}
use Rattle.fm_base_bytes.proofs.Bytes.{bytes_of-zero, bytes_of-one, bytes_of-add, length-bytes_of, number_of-bytes_of}
use Rattle.fm_segment_copies.specs.{Comparisons.{DiffersAt}, Alone.{first_difference}}

-- ---- two numbers

-- One byte more.
one_more : (n at : ℕ) → bytes_of (at + 1) n ≡ bytes_of at n ++ (lane n at 1 ∷ [])
one_more n at = bytes_of-add at 1 n ∙ ap (λ (bs : List ℕ). bytes_of at n ++ bs) (bytes_of-one (n / 2 ^ (8 * at)))

-- No byte is compared.
pub none_differs : (v w : ℕ) → bytes_of 0 v ≡ bytes_of 0 w
none_differs v w = bytes_of-zero v ∙ sym (bytes_of-zero w)

-- One byte more agrees.
pub one_more_agrees : (v w at : ℕ) → bytes_of at v ≡ bytes_of at w → lane v at 1 ≡ lane w at 1 → bytes_of (at + 1) v ≡ bytes_of (at + 1) w
one_more_agrees v w at h e = one_more v at ∙ (rw (h, e) refl ∙ sym (one_more w at))

-- Numbers of the same bytes are the same.
pub all_agree : (v w width : ℕ) → v < 2 ^ (8 * width) → w < 2 ^ (8 * width) → bytes_of width v ≡ bytes_of width w → v ≡ w
all_agree v w width h k e = sym (number_of-bytes_of width v h) ∙ (ap number_of e ∙ number_of-bytes_of width w k)

-- ---- two lists

-- an index, counted from so many bytes before
abbrev pub later : ℕ → Option ℕ → Option ℕ
later n found = option_map (λ i. n + i) found

-- Counted from no byte before.
pub later-none : (n : ℕ) (found : Option ℕ) → n ≡ 0 → later n found ≡ found
later-none n None e = refl
later-none n (Some i) e = let d : n + i ≡ i = omega arith in ap (λ k. Some k) d

-- Counted from two runs of bytes before.
pub later-later : (m n k : ℕ) (found : Option ℕ) → m + n ≡ k → later m (later n found) ≡ later k found
later-later m n k None e = refl
later-later m n k (Some i) e = let d : m + (n + i) ≡ k + i = omega arith in ap (λ j. Some j) d

-- Counted from one byte more.
one_later : (n : ℕ) (found : Option ℕ) → option_map suc (later n found) ≡ later (suc n) found
one_later n None = refl
one_later n (Some i) = let d : suc (n + i) ≡ suc n + i = omega arith in ap (λ j. Some j) d

-- Bytes that agree stand before.
pub first_difference-append : (p xs ys : List ℕ) → first_difference (p ++ xs) (p ++ ys) ≡ later (length p) (first_difference xs ys)
first_difference-append [] xs ys = sym (later-none 0 (first_difference xs ys) refl)
first_difference-append (x ∷ p) xs ys =
    ap (λ b. if b then option_map suc (first_difference (p ++ xs) (p ++ ys)) else Some 0) (eq-eqb x x refl)
    ∙ ap (λ (found : Option ℕ). option_map suc found) (first_difference-append p xs ys)
    ∙ one_later (length p) (first_difference xs ys)

-- The first bytes differ.
differs_here : (x y : ℕ) (xs ys : List ℕ) → x ≢ y → first_difference (x ∷ xs) (y ∷ ys) ≡ Some 0
differs_here x y xs ys h = ap (λ b. if b then option_map suc (first_difference xs ys) else Some 0) (ne_eqb x y h)

-- the bytes of a number behind byte `at`
abbrev behind : ℕ → ℕ → ℕ → List ℕ
behind width v at = bytes_of (width - (at + 1)) (v / 2 ^ (8 * (at + 1)))

-- The bytes of a number, around one of them.
bytes_around : (width v at : ℕ) → at < width → bytes_of width v ≡ bytes_of at v ++ (lane v at 1 ∷ behind width v at)
bytes_around width v at h =
    let sum : at + 1 + (width - (at + 1)) ≡ width = omega arith in
    let rest = behind width v at in
    sym (ap (λ n. bytes_of n v) sum)
    ∙ bytes_of-add (at + 1) (width - (at + 1)) v
    ∙ ap (λ (bs : List ℕ). bs ++ rest) (one_more v at)
    ∙ append_assoc (bytes_of at v) (lane v at 1 ∷ []) rest

-- The byte in which two numbers differ is that in which their bytes do, whatever stands behind them.
pub differs_at : (width v w at : ℕ) (xs ys : List ℕ) → DiffersAt width v w at → first_difference (bytes_of width v ++ xs) (bytes_of width w ++ ys) ≡ Some at
differs_at width v w at xs ys d =
    let low = bytes_of at v in
    let p = behind width v at ++ xs in
    let q = behind width w at ++ ys in
    let x = lane v at 1 in
    let y = lane w at 1 in
    let first : bytes_of width v ++ xs ≡ bytes_of at v ++ (lane v at 1 ∷ (behind width v at ++ xs)) =
    ap (λ (bs : List ℕ). bs ++ xs) (bytes_around width v at d.within) ∙ append_assoc low (x ∷ behind width v at) xs in
    let second : bytes_of width w ++ ys ≡ bytes_of at v ++ (lane w at 1 ∷ (behind width w at ++ ys)) =
    ap (λ (bs : List ℕ). bs ++ ys) (bytes_around width w at d.within) ∙ append_assoc (bytes_of at w) (y ∷ behind width w at) ys
    ∙ ap (λ (bs : List ℕ). bs ++ (y ∷ q)) (sym d.below) in
    ap (λ (bs : List ℕ). first_difference bs (bytes_of width w ++ ys)) first
    ∙ ap (λ (bs : List ℕ). first_difference (low ++ (x ∷ p)) bs) second
    ∙ first_difference-append low (x ∷ p) (y ∷ q)
    ∙ ap (later (length low)) (differs_here x y p q d.differs)
    ∙ ap (λ n. Some n) (let e : length low + 0 ≡ at = omega (arith, length-bytes_of at v) in e)
