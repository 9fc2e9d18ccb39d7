-- What stands in two runs, one behind the other.
use Rattle.std.proofs.Common.{◌≡◌, ℕ, zero, suc, ◌+◌, ◌-◌, ◌*◌, ◌<◌, ◌≤◌, Some, List, [], ◌∷◌, ◌++◌, length, refl, sym, ap, ◌∙◌, subst, inl, inr, arith}
use Rattle.std.specs.{Prelude.{◌⊎◌}, List.{range_with_len, slice_get}}
use Rattle.fm_base_lists.specs.Among.{IsAmong}
use Rattle.fm_records.specs.{Reads.{record_places}, Records.{pieces}}

-- the element of this index stands in the second of two lists
pub record StandsBehind {X : Type 0} (xs ys : List X) (i : ℕ) (x : X) : Type 0 where
  pub past : length xs ≤ i
  pub stands : slice_get ys (i - length xs) ≡ Some x

-- an element of two lists stands in one of them
pub get_split : {X : Type 0} (xs ys : List X) (i : ℕ) (x : X) → slice_get (xs ++ ys) i ≡ Some x → (slice_get xs i ≡ Some x) ⊎ StandsBehind xs ys i x
get_split [] ys i x h = let e : i ≡ i - 0 = omega arith in inr (record { past = omega arith; stands = ap (slice_get ys) (sym e) ∙ h })
get_split (y ∷ xs) ys zero x h = inl h
get_split (y ∷ xs) ys (suc i) x h = elim (get_split xs ys i x h) [
  | inl a ↦ inl a
  | inr b ↦
      let past = b.past in
      let e : suc i - suc (length xs) ≡ i - length xs = omega arith in
      inr (record { past = omega arith; stands = ap (slice_get ys) e ∙ b.stands })
]

pub length-pieces : (count size : ℕ) (bytes : List ℕ) → length (pieces count size bytes) ≡ count
length-pieces zero size bytes = refl
length-pieces (suc count) size bytes = ap suc (length-pieces count size _)

pub less_times : (i k n : ℕ) → k ≤ i → (i - k) * n + k * n ≡ i * n
less_times i k n h = let e : i - k + k ≡ i = omega (arith, h) in times_sum (i - k) k n ∙ ap (λ m. m * n) e
  where
    times_sum : (j k n : ℕ) → j * n + k * n ≡ (j + k) * n
    times_sum j k n = grind arith

-- ---- the places of records

pub length-record_places : (count size place : ℕ) → length (record_places count size place) ≡ count
length-record_places zero size place = refl
length-record_places (suc count) size place = ap suc (length-record_places count size (place + size))

-- the places of some, and of those behind them
pub places_split : (j k size place : ℕ) → record_places (j + k) size place ≡ record_places j size place ++ record_places k size (place + j * size)
places_split zero k size place =
    let none : 0 + k ≡ k = omega arith in
    let here : place ≡ place + 0 * size = omega arith in
    ap (λ n. record_places n size place) none ∙ ap (record_places k size) here
places_split (suc j) k size place =
    let more : suc j + k ≡ suc (j + k) = omega arith in
    let there : place + size + j * size ≡ place + suc j * size = grind arith in
    ap (λ n. record_places n size place) more
    ∙ ap (λ ps. place ∷ ps) (places_split j k size (place + size) ∙ ap (λ n. record_places j size (place + size) ++ record_places k size n) there)

-- the place of each of them
pub among_places : (index count size place : ℕ) → index < count → IsAmong (place + index * size) (record_places count size place)
among_places index zero size place below = absurd (omega arith)
among_places zero (suc count) size place below = inl (omega arith)
among_places (suc index) (suc count) size place below =
    let there : place + size + index * size ≡ place + suc index * size = grind arith in
    inr (subst (λ (q : ℕ). IsAmong q (record_places count size (place + size))) there (among_places index count size (place + size) (omega arith)))
