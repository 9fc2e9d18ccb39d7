-- Sums over turns: after one of them changed, and where all but one have nothing.
use Rattle.std.{proofs.{Common.{◌≡◌, ◌+◌, ◌≤◌, ℕ, zero, suc, List, [], ◌∷◌, set, sym, refl, ap, arith}, lemmas.List.Sums.{sum_by-cons}}, specs.Prelude.{sum_by}}
use mathlib.Core.Option.{some, some-injective, some-ne-none}
use lib.ListN.{get_elem?}
use Rattle.fm_workers_queue.specs.{declared.account.Account.{Account}, Rule.{Each}}

-- The sum after one turn changed.
pub sum_by-set : {T : Type 0} (f : Account T → ℕ) (turns : List (Account T)) (place : ℕ) (v w : Account T) → get_elem? turns place ≡ some v
    → sum_by f (set turns place w) + f v ≡ sum_by f turns + f w
sum_by-set f [] place v w e = absurd (some-ne-none v (sym e))
sum_by-set f (x ∷ xs) zero v w e =
    let same = ap f (some-injective x v e) in omega (arith, sum_by-cons f w xs, sum_by-cons f x xs)
sum_by-set f (x ∷ xs) (suc j) v w e =
    let rest = sum_by-set f xs j v w e in omega (arith, sum_by-cons f x (set xs j w), sum_by-cons f x xs)

-- Each turn's own is at most the sum.
pub own-le-sum_by : {T : Type 0} (f : Account T → ℕ) (turns : List (Account T)) (place : ℕ) (v : Account T) → get_elem? turns place ≡ some v → f v ≤ sum_by f turns
own-le-sum_by f [] place v e = absurd (some-ne-none v (sym e))
own-le-sum_by f (x ∷ xs) zero v e = let same = ap f (some-injective x v e) in omega (arith, sum_by-cons f x xs)
own-le-sum_by f (x ∷ xs) (suc j) v e = let rest = own-le-sum_by f xs j v e in omega (arith, sum_by-cons f x xs)

-- Where each has nothing, so have all.
sum_by-none : {T : Type 0} (f : Account T → ℕ) (turns : List (Account T)) → Each (λ u. f u ≡ 0) turns → sum_by f turns ≡ 0
sum_by-none f [] all = refl
sum_by-none f (x ∷ xs) all =
    let here = all 0 x refl in
    let rest = sum_by-none f xs (λ j u e. all (suc j) u e) in omega (arith, sum_by-cons f x xs)

-- A turn alone counts in `g`, and who doesn't count there has nothing in `f`: then the sum of `f` is its own.
pub sum_by-own : {T : Type 0} (g f : Account T → ℕ) (turns : List (Account T)) (place : ℕ) (v : Account T) → Each (λ u. g u ≡ 0 → f u ≡ 0) turns
    → get_elem? turns place ≡ some v → sum_by g turns ≡ g v → sum_by f turns ≡ f v
sum_by-own g f [] place v none e alone = absurd (some-ne-none v (sym e))
sum_by-own g f (x ∷ xs) zero v none e alone =
    let in_f = ap f (some-injective x v e) in
    let in_g = ap g (some-injective x v e) in
    let rest : sum_by g xs ≡ 0 = omega (arith, sum_by-cons g x xs) in
    let others : Each (λ u. f u ≡ 0) xs = λ j u at.
    let le = own-le-sum_by g xs j u at in let zero_g : g u ≡ 0 = omega arith in none (suc j) u at zero_g in
    let nothing = sum_by-none f xs others in omega (arith, sum_by-cons f x xs)
sum_by-own g f (x ∷ xs) (suc j) v none e alone =
    let le = own-le-sum_by g xs j v e in
    let zero_g : g x ≡ 0 = omega (arith, sum_by-cons g x xs) in
    let here = none 0 x refl zero_g in
    let rest : sum_by g xs ≡ g v = omega (arith, sum_by-cons g x xs) in
    let own = sum_by-own g f xs j v (λ k u at. none (suc k) u at) e rest in omega (arith, sum_by-cons f x xs)

-- The sum of two.
pub sum_by-both : {T : Type 0} (g f : Account T → ℕ) (turns : List (Account T)) → sum_by (λ v. g v + f v) turns ≡ sum_by g turns + sum_by f turns
sum_by-both g f [] = refl
sum_by-both g f (x ∷ xs) =
    let rest = sum_by-both g f xs in omega (arith, sum_by-cons (λ v. g v + f v) x xs, sum_by-cons g x xs, sum_by-cons f x xs)
