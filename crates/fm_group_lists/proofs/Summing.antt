-- Counts at places, summed by the numbers that stand there.
use Rattle.std.proofs.Common.{◌≡◌, ◌≢◌, ℕ, zero, suc, ◌+◌, ◌<◌, ◌≤◌, ◌==◌, Bool, true, false, if◌then◌else◌, List, [], ◌∷◌, ◌++◌, length, refl, sym, ap, ◌∙◌, subst, inl, inr, arith, Some, None}
use Rattle.std.{specs.{Prelude.{ℤ, Option}, List.{AllByRecursion, AllZip}, Ordering.{int_eq}}, proofs.lemmas.Bool.Decides.{nat_tests, Decides-int_eq}}
use Rattle.fm_base_lists.{specs.Among.{IsAmong}, proofs.{Among.{among_either, among_left, among_right}, Each.{all_among, all_of_among, all_weaker}}}
use Rattle.fm_group_lists.specs.{Groups.{AreGroups, AreSummed, Group, IsGroupOf, IsSumOf, how_many, keys, sum_at}, Settled.{AreSettled, SettledAreGroups, named, named_below, times_of}}

abbrev bit : Bool → ℕ
bit b = if b then 1 else 0

pub is_same : (x y : ℤ) → x ≡ y → int_eq x y ≡ true
is_same x y e = (Decides-int_eq x y).1 e

-- whether this number stands there
abbrev is_key : ℤ → Option ℤ → Bool
is_key n None = false
is_key n (Some m) = int_eq m n

-- ---- sums over places

abbrev total_to : (ℕ → ℕ) → ℕ → ℕ
total_to f zero = 0
total_to f (suc p) = total_to f p + f p

total_same : (f g : ℕ → ℕ) (p : ℕ) → ((q : ℕ) → q < p → f q ≡ g q) → total_to f p ≡ total_to g p
total_same f g zero h = refl
total_same f g (suc p) h = let a = total_same f g p (λ q b. h q (omega (arith, b))) in let b = h p (omega arith) in omega (arith, a, b)

total_plus : (f g : ℕ → ℕ) (p : ℕ) → total_to (λ q. f q + g q) p ≡ total_to f p + total_to g p
total_plus f g zero = refl
total_plus f g (suc p) = let a = total_plus f g p in omega (arith, a)

total_none : (p : ℕ) → total_to (λ q. 0) p ≡ 0
total_none zero = refl
total_none (suc p) = let a = total_none p in omega (arith, a)

-- what stands at one place alone
alone_above : (f : ℕ → ℕ) (at p : ℕ) → p ≤ at → total_to (λ q. if at == q then f q else 0) p ≡ 0
alone_above f at zero h = refl
alone_above f at (suc p) h =
    let a = alone_above f at p (omega (arith, h)) in
    let other : (at == p) ≡ false = grind (arith, nat_tests) in
    let b = ap (λ (x : Bool). if x then f p else 0) other in
    omega (arith, a, b)

alone : (f : ℕ → ℕ) (at p : ℕ) → at < p → total_to (λ q. if at == q then f q else 0) p ≡ f at
alone f at zero h = absurd (omega (arith, h))
alone f at (suc p) h = go (λ below. alone f at p below) (at == p) refl
  where
    go : (at < p → total_to (λ q. if at == q then f q else 0) p ≡ f at) → (b : Bool) → (at == p) ≡ b → total_to (λ q. if at == q then f q else 0) p + (if at == p then f p else 0) ≡ f at
    go before true e =
        let same : at ≡ p = grind (arith, nat_tests) in
        let none = alone_above f at p (omega (arith, same)) in
        let here = ap (λ (x : Bool). if x then f p else 0) e in
        let is = ap f same in
        omega (arith, none, here, is)
    go before false e =
        let other : at ≢ p = grind (arith, nat_tests) in
        let rest = before (omega (arith, h, other)) in
        let here = ap (λ (x : Bool). if x then f p else 0) e in
        omega (arith, rest, here)

sum_over : (ℕ → ℕ) → List ℕ → ℕ
sum_over f [] = 0
sum_over f (q ∷ qs) = f q + sum_over f qs

one_more : (b same : Bool) (n : ℕ) → (if b then bit same + n else 0) ≡ (if same then bit b else 0) + (if b then n else 0)
one_more true true n = refl
one_more true false n = omega arith
one_more false true n = omega arith
one_more false false n = omega arith

none_either : (b : Bool) → ◌≡◌ {A = ℕ} (if b then 0 else 0) 0
none_either true = refl
none_either false = refl

-- Summed by places, or by what was put there.
crossed : (B : ℕ → Bool) (at : List ℕ) (p : ℕ) → AllByRecursion (λ q. q < p) at
    → total_to (λ q. if B q then times_of q at else 0) p ≡ sum_over (λ q. bit (B q)) at
unfolding sum_over
crossed B [] p h = total_same (λ q. if B q then 0 else 0) (λ q. 0) p (λ q b. none_either (B q)) ∙ total_none p
crossed B (r ∷ at) p h =
    let rest = crossed B at p h.1 in
    let here = alone (λ q. bit (B q)) r p h.0 in
    let both = total_same (λ q. if B q then times_of q (r ∷ at) else 0) (λ q. (if r == q then bit (B q) else 0) + (if B q then times_of q at else 0)) p
    (λ q b. one_more (B q) (r == q) (times_of q at)) in
    let parts = total_plus (λ q. if r == q then bit (B q) else 0) (λ q. if B q then times_of q at else 0) p in
    omega (arith, rest, here, both, parts)

-- How often a number comes is how often it stands where numbers were counted.
stand_often : (key : ℕ → Option ℤ) (n : ℤ) (at : List ℕ) (ns : List ℤ) → AllZip (λ q x. key q ≡ Some x) at ns
    → sum_over (λ q. bit (is_key n (key q))) at ≡ how_many n ns
unfolding sum_over
stand_often key n [] [] h = refl
stand_often key n (q ∷ at) (x ∷ ns) h =
    let rest = stand_often key n at ns h.1 in
    let here : bit (is_key n (key q)) ≡ bit (int_eq x n) = ap (λ o. bit (is_key n o)) h.0 in
    omega (arith, rest, here)
stand_often key n at ns h = absurd h

pub sum_at-append : (n : ℤ) (xs ys : List Group) → sum_at n (xs ++ ys) ≡ sum_at n xs + sum_at n ys
sum_at-append n [] ys = omega arith
sum_at-append n (x ∷ xs) ys = let h = sum_at-append n xs ys in omega (arith, h)

at_one : (n : ℤ) (k : Option ℤ) (c : ℕ) → sum_at n (named k c) ≡ (if is_key n k then c else 0)
at_one n None c = refl
at_one n (Some m) c = omega arith

summed_below : (n : ℤ) (key : ℕ → Option ℤ) (count : ℕ → ℕ) (p : ℕ) → sum_at n (named_below key count p) ≡ total_to (λ q. if is_key n (key q) then count q else 0) p
summed_below n key count zero = refl
summed_below n key count (suc p) =
    let a = summed_below n key count p in
    let b = at_one n (key p) (count p) in
    let c = sum_at-append n (named_below key count p) (named (key p) (count p)) in
    omega (arith, a, b, c)

-- ---- groups

pub often : (n : ℤ) (ns : List ℤ) → IsAmong n ns → 0 < how_many n ns
often n [] i = absurd i
often n (x ∷ ns) (inl e) = let one = ap bit (is_same x n (sym e)) in omega (arith, one)
often n (x ∷ ns) (inr i) = let rest = often n ns i in omega (arith, rest)

at_most_one : (b : Bool) → bit b ≤ 1
at_most_one true = omega arith
at_most_one false = omega arith

pub how_many-most : (n : ℤ) (ns : List ℤ) → how_many n ns ≤ length ns
how_many-most n [] = omega arith
how_many-most n (x ∷ ns) = let h = how_many-most n ns in let one = at_most_one (int_eq x n) in omega (arith, h, one)

-- which numbers stand at places
keys-append : (xs ys : List Group) → keys (xs ++ ys) ≡ keys xs ++ keys ys
keys-append [] ys = refl
keys-append (x ∷ xs) ys = ap (λ ks. x.0 ∷ ks) (keys-append xs ys)

-- a place where a number stands
record StandsAt (key : ℕ → Option ℤ) (n : ℤ) (p : ℕ) : Type 0 where
  at : ℕ
  below : at < p
  is : key at ≡ Some n

named_is : (n : ℤ) (k : Option ℤ) (c : ℕ) → IsAmong n (keys (named k c)) → k ≡ Some n
named_is n None c i = absurd i
named_is n (Some m) c (inl e) = ap Some (sym e)
named_is n (Some m) c (inr i) = absurd i

stands : (key : ℕ → Option ℤ) (count : ℕ → ℕ) (n : ℤ) (p : ℕ) → IsAmong n (keys (named_below key count p)) → StandsAt key n p
stands key count n zero i = absurd i
stands key count n (suc p) i =
    elim (among_either n (keys (named_below key count p)) (keys (named (key p) (count p)))
    (subst (λ (ks : List ℤ). IsAmong n ks) (keys-append (named_below key count p) (named (key p) (count p))) i)) [
      | inl before ↦ (let s = stands key count n p before in let b = s.below in record { at = s.at; below = omega (arith, b); is = s.is })
      | inr here ↦ record { at = p; below = omega arith; is = named_is n (key p) (count p) here }
    ]

is_named : (n : ℤ) (k : Option ℤ) (c : ℕ) → k ≡ Some n → IsAmong n (keys (named k c))
is_named n k c e = subst (λ (o : Option ℤ). IsAmong n (keys (named o c))) (sym e) (inl refl)

stands_among : (key : ℕ → Option ℤ) (count : ℕ → ℕ) (n : ℤ) (at p : ℕ) → at < p → key at ≡ Some n → IsAmong n (keys (named_below key count p))
stands_among key count n at zero below is = absurd (omega (arith, below))
stands_among key count n at (suc p) below is =
    subst (λ (ks : List ℤ). IsAmong n ks) (sym (keys-append (named_below key count p) (named (key p) (count p)))) (go (λ b. stands_among key count n at p b is) (at == p) refl)
  where
    go : (at < p → IsAmong n (keys (named_below key count p))) → (b : Bool) → (at == p) ≡ b → IsAmong n (keys (named_below key count p) ++ keys (named (key p) (count p)))
    go before true e =
        let same : at ≡ p = grind (arith, nat_tests) in
        among_right n (keys (named_below key count p)) (keys (named (key p) (count p))) (is_named n (key p) (count p) (ap key (sym same) ∙ is))
    go before false e =
        let other : at ≢ p = grind (arith, nat_tests) in
        among_left n (keys (named_below key count p)) (keys (named (key p) (count p))) (before (omega (arith, below, other)))

module _ (places : ℕ) (key : ℕ → Option ℤ) (count : ℕ → ℕ) (at : List ℕ) (ns : List ℤ) (h : AreSettled places key count at ns) where
  abbrev xs : List Group
  xs = named_below key count places

  -- The sum beside a number is how often it comes.
  sum_is : (n : ℤ) → sum_at n (named_below key count places) ≡ how_many n ns
  sum_is n =
      summed_below n key count places
      ∙ total_same (λ q. if is_key n (key q) then count q else 0) (λ q. if is_key n (key q) then times_of q at else 0) places
      (λ q b. ap (λ c. if is_key n (key q) then c else 0) (h.counted q b))
      ∙ crossed (λ q. is_key n (key q)) at places h.below ∙ stand_often key n at ns h.stand

  one_is : (g : Group) → IsSumOf (named_below key count places) g → IsGroupOf ns g
  one_is g s =
      let is = sum_is g.0 in
      let most = how_many-most g.0 ns in
      let few = h.few in
      let there = stands key count g.0 places s.1 in
      let some = often g.0 ns (h.among there.at g.0 there.below there.is) in
      let sum = s.0 in
      (omega (arith, is, most, few, sum), omega (arith, is, most, few, sum, some))

  all_are : (qs : List ℕ) (ms : List ℤ) → AllByRecursion (λ q. q < places) qs → AllZip (λ q x. key q ≡ Some x) qs ms
      → (n : ℤ) → IsAmong n ms → IsAmong n (keys (named_below key count places))
  all_are [] [] b z n i = absurd i
  all_are (q ∷ qs) (m ∷ ms) b z n (inl e) = stands_among key count n q places b.0 (z.0 ∙ ap Some (sym e))
  all_are (q ∷ qs) (m ∷ ms) b z n (inr i) = all_are qs ms b.1 z.1 n i
  all_are qs ms b z n i = absurd z

  -- What is summed up by numbers are the groups.
  pub groups : (gs : List Group) → AreSummed (named_below key count places) gs → AreGroups ns gs
  groups gs s = record {
    rising = s.rising;
    each = all_weaker (IsSumOf (named_below key count places)) (IsGroupOf ns) one_is gs s.each;
    all = all_of_among (λ n. IsAmong n (keys gs)) ns
        (λ n i. all_among (λ m. IsAmong m (keys gs)) n (keys (named_below key count places)) s.all (all_are at ns h.below h.stand n i));
  }

pub settled_groups : SettledAreGroups
settled_groups places key count at ns gs h s = groups places key count at ns h gs s
