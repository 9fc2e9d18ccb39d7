-- Numbers of which each comes once.
use Rattle.std.proofs.Common.{◌≡◌, ◌≢◌, ℕ, zero, suc, ◌+◌, ◌<◌, ◌≤◌, ◌==◌, Bool, true, false, List, [], ◌∷◌, ◌++◌, refl, ap, arith, inl, inr, cond}
use Rattle.std.{specs.List.{range_with_len}, proofs.lemmas.{Bool.Decides.{nat_tests}, List.Sums.{sum_by-append, sum_by-cons}}}
use Rattle.fm_base_lists.specs.Among.{IsAmong}
use Rattle.fm_workers_jobs.specs.Turns.{times}

-- what one number adds
abbrev one_if : Bool → ℕ
one_if b = cond b 1 0

pub times-cons : (k x : ℕ) (xs : List ℕ) → times k (x ∷ xs) ≡ one_if (x == k) + times k xs
times-cons k x xs = sum_by-cons (λ (y : ℕ). one_if (y == k)) x xs

pub times-append : (k : ℕ) (xs ys : List ℕ) → times k (xs ++ ys) ≡ times k xs + times k ys
times-append k xs ys = sum_by-append (λ (y : ℕ). one_if (y == k)) xs ys

-- A number itself comes once, and no other does.
pub times-same : (k x : ℕ) (xs : List ℕ) → x ≡ k → times k (x ∷ xs) ≡ 1 + times k xs
times-same k x xs e =
    let same : (x == k) ≡ true = grind (arith, nat_tests) in
    let one : one_if (x == k) ≡ one_if true = ap one_if same in
    let all = times-cons k x xs in
    omega (arith, all, one)

pub times-other : (k x : ℕ) (xs : List ℕ) → x ≢ k → times k (x ∷ xs) ≡ times k xs
times-other k x xs e =
    let other : (x == k) ≡ false = grind (arith, nat_tests) in
    let none : one_if (x == k) ≡ one_if false = ap one_if other in
    let all = times-cons k x xs in
    omega (arith, all, none)

-- What comes at all is there.
pub times_among : (k : ℕ) (xs : List ℕ) → 0 < times k xs → IsAmong k xs
times_among k [] some = absurd (omega (arith, some))
times_among k (x ∷ xs) some =
    let P : Bool → Type 0 = λ b. (x == k) ≡ b → IsAmong k (x ∷ xs) in
    let go : (b : Bool) → P b = λ b. elim b as P [
      | true ↦ (λ e. let same : k ≡ x = grind (arith, nat_tests) in inl same)
      | false ↦ (λ e.
          let other : x ≢ k = grind (arith, nat_tests) in
          inr (times_among k xs (let all = times-other k x xs other in omega (arith, all, some))))
    ] in
    go (x == k) refl

-- ---- numbers in a row

-- Those below or above them don't come.
pub range_below : (from n k : ℕ) → k < from → times k (range_with_len from n) ≡ 0
range_below from zero k below = refl
range_below from (suc n) k below =
    let rest = range_below (from + 1) n k (omega (arith, below)) in
    let one = times-other k from (range_with_len (from + 1) n) (λ e. omega (arith, e, below)) in
    omega (arith, rest, one)

pub range_above : (from n k : ℕ) → from + n ≤ k → times k (range_with_len from n) ≡ 0
range_above from zero k above = refl
range_above from (suc n) k above =
    let rest = range_above (from + 1) n k (omega (arith, above)) in
    let one = times-other k from (range_with_len (from + 1) n) (λ e. omega (arith, e, above)) in
    omega (arith, rest, one)

-- Each of them comes once.
pub range_once : (from n k : ℕ) → from ≤ k → k < from + n → times k (range_with_len from n) ≡ 1
range_once from zero k low high = absurd (omega (arith, low, high))
range_once from (suc n) k low high =
    let P : Bool → Type 0 = λ b. (from == k) ≡ b → times k (range_with_len from (suc n)) ≡ 1 in
    let go : (b : Bool) → P b = λ b. elim b as P [
      | true ↦ (λ e.
          let same : from ≡ k = grind (arith, nat_tests) in
          let rest = range_below (from + 1) n k (omega (arith, same)) in
          let one = times-same k from (range_with_len (from + 1) n) same in
          omega (arith, rest, one))
      | false ↦ (λ e.
          let other : from ≢ k = grind (arith, nat_tests) in
          let rest = range_once (from + 1) n k (omega (arith, low, other)) (omega (arith, high)) in
          let one = times-other k from (range_with_len (from + 1) n) other in
          omega (arith, rest, one))
    ] in
    go (from == k) refl

-- Where each number below a bound comes as often as it, it is there.
pub once_among : (n : ℕ) (xs : List ℕ) → ((k : ℕ) → times k xs ≡ times k (range_with_len 0 n)) → (k : ℕ) → k < n → IsAmong k xs
once_among n xs once k below =
    let one = range_once 0 n k (omega arith) (omega (arith, below)) in
    let same = once k in
    times_among k xs (omega (arith, one, same))
