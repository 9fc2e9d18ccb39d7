-- Numbers with a count of 1 each, summed up, are the groups of the numbers.
use Rattle.std.proofs.Common.{◌≡◌, ◌^◌, ◌<◌, ◌≤◌, Bool, true, false, if◌then◌else◌, List, [], ◌∷◌, length, refl, ap, subst, arith}
use Rattle.std.specs.{Prelude.{ℤ}, List.{AllByRecursion}, Ordering.{int_eq}}
use Rattle.fm_base_lists.{specs.Among.{IsAmong}, proofs.Each.{all_weaker}}
use Rattle.fm_group_lists.{specs.Groups.{AreGroups, AreSummed, Group, IsGroupOf, IsSumOf, how_many, keys, sum_at}, proofs.Summing.{often}}
use Rattle.fm_c_calls.specs.Grouped.{once}

keys_once : (ns : List ℤ) → keys (once ns) ≡ ns
keys_once [] = refl
keys_once (n ∷ ns) = ap (λ (xs : List ℤ). n ∷ xs) (keys_once ns)

sum_once : (n : ℤ) (ns : List ℤ) → sum_at n (once ns) ≡ how_many n ns
sum_once n [] = refl
sum_once n (m ∷ ns) = let h = sum_once n ns in omega (arith, h)

bit_small : (b : Bool) → (if b then 1 else 0) ≤ 1
bit_small true = omega arith
bit_small false = omega arith

few_are : (n : ℤ) (ns : List ℤ) → how_many n ns ≤ length ns
few_are n [] = omega arith
few_are n (m ∷ ns) = let h = few_are n ns in let b = bit_small (int_eq m n) in omega (arith, h, b)

-- Where they are fewer than 2^64.
pub once_grouped : (ns : List ℤ) (gs : List Group) → length ns < 2 ^ 64 → AreSummed (once ns) gs → AreGroups ns gs
once_grouped ns gs short s = record {
  rising = s.rising;
  each = all_weaker (IsSumOf (once ns)) (IsGroupOf ns) one gs s.each;
  all = subst (λ (xs : List ℤ). AllByRecursion (λ n. IsAmong n (keys gs)) xs) (keys_once ns) s.all;
}
  where
    one : (g : Group) → IsSumOf (once ns) g → IsGroupOf ns g
    one g (sum, among) =
        let here = often g.0 ns (subst (λ (xs : List ℤ). IsAmong g.0 xs) (keys_once ns) among) in
        let few = few_are g.0 ns in
        let total = sum_once g.0 ns in
        let is : g.1 ≡ how_many g.0 ns = omega (arith, sum, few, total, short) in
        (is, omega (arith, is, here))
