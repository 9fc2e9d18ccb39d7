-- How many callers a list of distinct ones has.
use Rattle.std.proofs.Common.{◌≡◌, ◌≢◌, ℕ, zero, suc, ◌+◌, ◌<◌, ◌≤◌, List, [], ◌∷◌, ◌++◌, length, sym, refl, ap, ◌∙◌, subst, arith, inl, inr, ⊎_elim}
use native.Mathlib.Decide.{ℕ_discrete}
use Rattle.fm_base.specs.{Finds.{Gathered}, declared.caller.Caller.{Caller}}
use Rattle.fm_rule_facts.{specs.{Views.{In}, Facts.{IsOnce, WasDrawn}}, proofs.Keeping.{in_left, in_right, in_append}}

abbrev pub Distinct : List ℕ → Type 0
Distinct [] = Unit {0}
Distinct (x ∷ xs) = (¬ In x xs) × Distinct xs

in_dec : (n : ℕ) (xs : List ℕ) → Dec (In n xs)
in_dec n [] = no (λ i. i)
in_dec n (x ∷ xs) = go (ℕ_discrete n x) (in_dec n xs)
  where
    go : Dec (n ≡ x) → Dec (In n xs) → Dec (In n (x ∷ xs))
    go (yes e) d = yes (inl e)
    go (no ne) (yes i) = yes (inr i)
    go (no ne) (no ni) = no (⊎_elim ne ni)

-- the list without one of its numbers is shorter
record Less (n : ℕ) (xs : List ℕ) : Type 0 where
  left : List ℕ
  shorter : length xs ≡ length left + 1
  others : (m : ℕ) → In m xs → m ≢ n → In m left
  among : (m : ℕ) → In m left → In m xs
  distinct : Distinct xs → Distinct left × (¬ In n left)

less : (n : ℕ) (xs : List ℕ) → In n xs → Less n xs
less n [] i = absurd i
less n (x ∷ xs) (inl e) = record {
  left = xs;
  shorter = omega arith;
  others = λ m. ⊎_elim (λ q ne. absurd (ne (q ∙ sym e))) (λ j ne. j);
  among = λ m j. inr j;
  distinct = λ d. (d.1, (λ j. d.0 (subst (λ (k : ℕ). In k xs) e j)));
}
less n (x ∷ xs) (inr i) =
    let y = less n xs i in
    record {
      left = x ∷ y.left;
      shorter = (let a = y.shorter in omega arith);
      others = λ m. ⊎_elim (λ q ne. inl q) (λ j ne. inr (y.others m j ne));
      among = λ m. ⊎_elim (λ q. inl q) (λ j. inr (y.among m j));
      distinct = λ d. (((λ j. d.0 (y.among x j)), (y.distinct d.1).0), ⊎_elim (λ q. d.0 (subst (λ (k : ℕ). In k xs) q i)) (y.distinct d.1).1);
    }

-- no more than n distinct numbers are below n
pub at_most : (n : ℕ) (xs : List ℕ) → Distinct xs → ((m : ℕ) → In m xs → m < n) → length xs ≤ n
at_most zero [] d b = omega arith
at_most zero (x ∷ xs) d b = let h = b x (inl refl) in absurd (omega arith)
at_most (suc n) xs d b = go (in_dec n xs) (at_most n)
  where
    go : Dec (In n xs) → ((xs : List ℕ) → Distinct xs → ((m : ℕ) → In m xs → m < n) → length xs ≤ n) → length xs ≤ suc n
    go (yes i) ih =
        let y = less n xs i in
        let h = ih y.left (y.distinct d).0 (λ m j.
        let c = b m (y.among m j) in
        let ne : m ≢ n = (λ e. (y.distinct d).1 (subst (λ (k : ℕ). In k y.left) e j)) in
        omega arith) in
        let l = y.shorter in omega arith
    go (no ni) ih =
        let h = ih xs d (λ m j. let c = b m j in let ne : m ≢ n = (λ e. ni (subst (λ (k : ℕ). In k xs) e j)) in omega arith) in omega arith

-- a list that has all numbers below n has no fewer
pub at_least : (n : ℕ) (xs : List ℕ) → ((m : ℕ) → m < n → In m xs) → n ≤ length xs
at_least zero xs f = omega arith
at_least (suc n) xs f =
    let y = less n xs (f n (omega arith)) in
    let h = at_least n y.left (λ m l. y.others m (f m (omega arith)) (λ e. omega arith)) in
    let l = y.shorter in omega arith

-- as many distinct numbers below n as there are: all of them
pub all_below : (n : ℕ) (xs : List ℕ) → Distinct xs → ((m : ℕ) → In m xs → m < n) → length xs ≡ n → (m : ℕ) → m < n → In m xs
all_below n xs d b e m l = go (in_dec m xs)
  where
    go : Dec (In m xs) → In m xs
    go (yes i) = i
    go (no ni) = let h = at_most n (m ∷ xs) (ni, d) (λ k. ⊎_elim (λ q. omega arith) (b k)) in absurd (omega arith)

-- ---- lists put together

-- lists without a value in common, put together
apart_both : {A B : Type 0} (f : A → B) (xs ys : List A) → IsOnce f xs → IsOnce f ys → ((x y : A) → In x xs → In y ys → f y ≢ f x) → IsOnce f (xs ++ ys)
apart_both f [] ys a b n = b
apart_both f (x ∷ xs) ys a b n = (
  (λ y i. ⊎_elim (a.0 y) (λ (j : In y ys). n x y (inl refl) j) (in_append y xs ys i)),
  apart_both f xs ys a.1 b (λ c d i j. n c d (inr i) j),
)

-- and one list between two
pub between : {A B : Type 0} (f : A → B) (xs ys zs : List A) → IsOnce f (xs ++ ys) → IsOnce f zs → ((x z : A) → In x (xs ++ ys) → In z zs → f z ≢ f x)
    → IsOnce f (xs ++ (zs ++ ys))
between f [] ys zs a b n = apart_both f zs ys b a (λ z y i j e. n y z j i (sym e))
between f (x ∷ xs) ys zs a b n = (
  (λ y i. ⊎_elim (λ (j : In y xs). a.0 y (in_left y xs ys j))
      (λ (j : In y (zs ++ ys)). ⊎_elim (λ (k : In y zs). n x y (inl refl) k) (λ (k : In y ys). a.0 y (in_right y xs ys k)) (in_append y zs ys j))
      (in_append y xs (zs ++ ys) i)),
  between f xs ys zs a.1 b (λ c z i j. n c z (inr i) j),
)

-- ---- the ranks of gathered callers

module _ (rank : Caller → ℕ) where
  abbrev pub ranks : List Gathered → List ℕ
  ranks [] = []
  ranks (g ∷ gs) = rank g.caller ∷ ranks gs

  pub ranks_long : (gs : List Gathered) → length (ranks gs) ≡ length gs
  ranks_long [] = refl
  ranks_long (g ∷ gs) = let h = ranks_long gs in omega arith

  pub has_rank : (n : ℕ) (gs : List Gathered) → In n (ranks gs) → (g : Gathered) × In g gs × (rank g.caller ≡ n)
  has_rank n [] i = absurd i
  has_rank n (g ∷ gs) (inl e) = (g, inl refl, sym e)
  has_rank n (g ∷ gs) (inr i) = let y = has_rank n gs i in (y.0, inr y.1, y.2)

  pub in_ranks : (g : Gathered) (gs : List Gathered) → In g gs → In (rank g.caller) (ranks gs)
  in_ranks g [] i = absurd i
  in_ranks g (x ∷ gs) (inl e) = inl (ap (λ (y : Gathered). rank y.caller) e)
  in_ranks g (x ∷ gs) (inr i) = inr (in_ranks g gs i)

  -- callers that were drawn are one where their ranks are
  pub one_rank : (draw : ℕ) (who : ℕ → Caller) (c d : Caller) → WasDrawn draw who rank c → WasDrawn draw who rank d → rank c ≡ rank d → c ≡ d
  one_rank draw who c d p q e = sym p.1 ∙ (ap who e ∙ q.1)

  pub ranks_apart : (draw : ℕ) (who : ℕ → Caller) (gs : List Gathered) → ((g : Gathered) → In g gs → WasDrawn draw who rank g.caller)
      → IsOnce (λ (g : Gathered). g.caller) gs → Distinct (ranks gs)
  ranks_apart draw who [] f o = tt
  ranks_apart draw who (g ∷ gs) f o = (
    (λ i. let y = has_rank (rank g.caller) gs i in
        o.0 y.0 y.1 (one_rank draw who y.0.caller g.caller (f y.0 (inr y.1)) (f g (inl refl)) y.2)),
    ranks_apart draw who gs (λ x i. f x (inr i)) o.1,
  )
