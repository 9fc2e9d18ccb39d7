-- Pairs in another order have the same sums, and a sort puts them in the order of their numbers.
use Rattle.std.proofs.Common.{◌≡◌, ◌≢◌, ℕ, ◌+◌, ◌%◌, ◌^◌, ◌<◌, false, if◌then◌else◌, Ordering, Less, Equal, Greater, List, [], ◌∷◌, length, get_or, refl, sym, ap, ◌∙◌, subst, arith}
use Rattle.std.specs.{Prelude.{ℤ, ◌≤ℤ◌, ◌<ℤ◌}, List.{sum_by}, List.Sorted.{IsPermutation, IsSortedBy}, Ordering.{MatchOrdering, int_cmp, int_eq, is_lt, nat_cmp, ordering_then}, Cmp.{int_ranks}}
use Rattle.std.proofs.lemmas.{List.Sorted.{length_permutation, sum_by-IsPermutation}, List.Sums.{sum_by-cons}, Int.{ints}}
use Rattle.fm_base_lists.{specs.Among.{IsAmong}, proofs.Each.{all_of_among, all_among, all_weaker}}
use Rattle.fm_group_lists.{specs.Groups.{AreSummed, Group, IsSumOf, how_many, keys, sum_at}, specs.Climbing.{IsClimbing}, proofs.{Climbing.{climbing}, One.{often_there}, Summing.{often}}}

-- A sum by numbers is one of weights,
sum_at-by : (n : ℤ) (xs : List Group) → sum_at n xs ≡ sum_by (λ (x : Group). if int_eq x.0 n then x.1 else 0) xs
sum_at-by n [] = refl
sum_at-by n (x ∷ xs) =
    ap (λ k. (if int_eq x.0 n then x.1 else 0) + k) (sum_at-by n xs) ∙ sym (sum_by-cons (λ (x : Group). if int_eq x.0 n then x.1 else 0) x xs)

-- and so is how often a number stands there.
how_many-by : (n : ℤ) (xs : List Group) → how_many n (keys xs) ≡ sum_by (λ (x : Group). if int_eq x.0 n then 1 else 0) xs
how_many-by n [] = refl
how_many-by n (x ∷ xs) =
    ap (λ k. (if int_eq x.0 n then 1 else 0) + k) (how_many-by n xs) ∙ sym (sum_by-cons (λ (x : Group). if int_eq x.0 n then 1 else 0) x xs)

module _ (xs ys : List Group) (p : IsPermutation xs ys) where
  sum_same : (n : ℤ) → sum_at n ys ≡ sum_at n xs
  sum_same n = sum_at-by n ys ∙ sum_by-IsPermutation (λ (x : Group). if int_eq x.0 n then x.1 else 0) xs ys p ∙ sym (sum_at-by n xs)

  many_same : (n : ℤ) → how_many n (keys ys) ≡ how_many n (keys xs)
  many_same n = how_many-by n ys ∙ sum_by-IsPermutation (λ (x : Group). if int_eq x.0 n then 1 else 0) xs ys p ∙ sym (how_many-by n xs)

  among_before : (n : ℤ) → IsAmong n (keys ys) → IsAmong n (keys xs)
  among_before n i = often_there n (keys xs) (subst (λ k. 0 < k) (many_same n) (often n (keys ys) i))

  among_behind : (n : ℤ) → IsAmong n (keys xs) → IsAmong n (keys ys)
  among_behind n i = often_there n (keys ys) (subst (λ k. 0 < k) (sym (many_same n)) (often n (keys xs) i))

  -- The sums of pairs are those of the same in another order.
  pub summed_order : (gs : List Group) → AreSummed ys gs → AreSummed xs gs
  summed_order gs s = record {
    rising = s.rising;
    each = all_weaker (IsSumOf ys) (IsSumOf xs) (λ g h. (h.0 ∙ ap (λ k. k % 2 ^ 64) (sum_same g.0), among_before g.0 h.1)) gs s.each;
    all = all_of_among (λ n. IsAmong n (keys gs)) (keys xs) (λ n i. all_among (λ n. IsAmong n (keys gs)) n (keys ys) s.all (among_behind n i));
  }

not_below : (x y : ℤ) (c d : ℕ) → is_lt (ordering_then (int_cmp y x) (nat_cmp d c)) ≡ false → x ≤ℤ y
not_below x y c d e = go (int_cmp y x) (int_ranks y x) e
  where
    go : (o : Ordering) → MatchOrdering o (y <ℤ x) (y ≡ x) (x <ℤ y) → is_lt (ordering_then o (nat_cmp d c)) ≡ false → x ≤ℤ y
    go Less m e = absurd (cc)
    go Equal m e = omega (arith, ints, m)
    go Greater m e = omega (arith, ints, m)

-- Sorted pairs climb.
pub sorted_climb : (xs : List Group) → IsSortedBy (λ (x y : Group). is_lt (ordering_then (int_cmp x.0 y.0) (nat_cmp x.1 y.1))) xs → IsClimbing xs
sorted_climb xs s = climbing xs (λ k d low. not_below (get_or xs k d).0 (get_or xs (k + 1) d).0 (get_or xs k d).1 (get_or xs (k + 1) d).1 (s k d (omega arith) low))
