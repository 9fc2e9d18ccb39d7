-- The first 0 of two lists behind one another.
use Rattle.std.proofs.{Common.{◌≡◌, ℕ, ◌+◌, ◌<◌, ◌≤◌, List, ◌++◌, length, refl, ap, sym, ◌∙◌, arith, Some, None, Option, Bool, true, false, cond, not, eq-eqb, ◌==◌}, lemmas.List.{length-append, Folds.{prefix_len-append}, Sums.{prefix_len-le-length}}}
use Rattle.std.proofs.lemmas.Bool.Decides.{nat_tests}
use Rattle.std.specs.{Prelude.{nat_lt}, List.{position_or_len}}
use Rattle.fm_text.specs.Texts.{zero_at}

abbrev first_zero : List ℕ → ℕ
first_zero bs = position_or_len (λ b. b == 0) bs

-- It is an index, or the length.
first_zero-le : (xs : List ℕ) → first_zero xs ≤ length xs
first_zero-le xs = prefix_len-le-length (λ b. not (b == 0)) xs

-- Where the first list has none, it is the second's.
first_zero-append : (xs ys : List ℕ) → first_zero xs ≡ length xs → first_zero (xs ++ ys) ≡ length xs + first_zero ys
first_zero-append xs ys h =
    prefix_len-append (λ b. not (b == 0)) xs ys
    ∙ ap (λ b. cond b (length xs + first_zero ys) (first_zero xs)) (eq-eqb (first_zero xs) (length xs) h)

-- No index was found, so it is the length.
none_by : (n m : ℕ) (b : Bool) → nat_lt n m ≡ b → cond b (Some n) None ≡ None → n ≤ m → n ≡ m
none_by n m true e h l = absurd (cc)
none_by n m false e h l = grind (arith, nat_tests)

-- An index that was found is below the length.
some_by : (k n m : ℕ) (b : Bool) → nat_lt n m ≡ b → cond b (Some n) None ≡ Some k → (k ≡ n) × (n < m)
some_by k n m true e h = (cc, grind (arith, nat_tests))
some_by k n m false e h = absurd (cc)

-- An index, moved up.
plus : ℕ → Option ℕ → Option ℕ
plus k None = None
plus k (Some n) = Some (k + n)

-- A test of two indices is one of both moved up.
shifted : (k n m : ℕ) (b : Bool) → nat_lt n m ≡ b → cond (nat_lt (k + n) (k + m)) (Some (k + n)) None ≡ plus k (cond b (Some n) None)
unfolding plus
shifted k n m true e = let l : nat_lt (k + n) (k + m) ≡ true = grind (arith, nat_tests) in ap (λ b. cond b (Some (k + n)) None) l
shifted k n m false e = let l : nat_lt (k + n) (k + m) ≡ false = grind (arith, nat_tests) in ap (λ b. cond b (Some (k + n)) None) l

-- The first 0 behind a list with none.
zero_behind : (xs ys : List ℕ) → zero_at xs ≡ None → zero_at (xs ++ ys) ≡ plus (length xs) (zero_at ys)
zero_behind xs ys h =
    let all : first_zero xs ≡ length xs = none_by (first_zero xs) (length xs) _ refl h (first_zero-le xs) in
    (λ j. cond (nat_lt (first_zero-append xs ys all j) (length-append xs ys j)) (Some (first_zero-append xs ys all j)) None)
    ∙ shifted (length xs) (first_zero ys) (length ys) _ refl

-- Two lists with no 0 have none.
pub no_zero_behind : (xs ys : List ℕ) → zero_at xs ≡ None → zero_at ys ≡ None → zero_at (xs ++ ys) ≡ None
unfolding plus
no_zero_behind xs ys h e = zero_behind xs ys h ∙ ap (plus (length xs)) e

-- The first 0 of the second list, behind a first one with none.
pub some_zero_behind : (xs ys : List ℕ) (n : ℕ) → zero_at xs ≡ None → zero_at ys ≡ Some n → zero_at (xs ++ ys) ≡ Some (length xs + n)
unfolding plus
some_zero_behind xs ys n h e = zero_behind xs ys h ∙ ap (plus (length xs)) e

-- the first 0 of a list, and of any that goes on from it
pub record IsFirst (xs ys : List ℕ) (n : ℕ) : Type 0 where
  pub below : n < length xs
  pub all : zero_at (xs ++ ys) ≡ Some n

-- The first 0 of the first list is that of both.
pub zero_before : (xs ys : List ℕ) (n : ℕ) → zero_at xs ≡ Some n → IsFirst xs ys n
zero_before xs ys n h =
    let found = some_by n (first_zero xs) (length xs) _ refl h in
    let below = found.1 in
    let sum = length-append xs ys in
    let other : (first_zero xs == length xs) ≡ false = grind (arith, nat_tests) in
    let same : first_zero (xs ++ ys) ≡ first_zero xs =
    prefix_len-append (λ b. not (b == 0)) xs ys ∙ ap (λ b. cond b (length xs + first_zero ys) (first_zero xs)) other in
    let less : nat_lt (first_zero xs) (length (xs ++ ys)) ≡ true = grind (arith, nat_tests) in
    record {
      below = omega arith;
      all = ap (λ k. cond (nat_lt k (length (xs ++ ys))) (Some k) None) same ∙ ap (λ b. cond b (Some (first_zero xs)) None) less ∙ ap Some (sym found.0);
    }
