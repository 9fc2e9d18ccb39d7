-- Rising lists with the same numbers, and beside each the same count, are one list.
use Rattle.std.proofs.Common.{◌≡◌, ℕ, ◌%◌, ◌^◌, ◌<◌, List, [], ◌∷◌, refl, sym, ap, ◌∙◌, subst, inl, inr, ◌⊎◌, arith}
use Rattle.std.{specs.{Prelude.{ℤ, ◌<ℤ◌, Bool, true, false, if◌then◌else◌}, List.{AllByRecursion}, Ordering.{int_eq}, Int.Signed.{<ℤ_irrefl}, Cmp.{int_chain}}, proofs.lemmas.Bool.Decides.{Decides-int_eq}}
use Rattle.fm_base_lists.{specs.Among.{IsAmong}, proofs.Each.{all_among, all_weaker}}
use Rattle.fm_group_lists.specs.Groups.{Group, GroupsAreOne, IsGroupOf, IsRising, IsSumOf, SumsAreOne, how_many, keys, sum_at}

abbrev bit : Bool → ℕ
bit b = if b then 1 else 0

-- The least numbers are equal, where each stands in the other list.
least_same : (x y : ℤ) (xs ys : List ℤ) → AllByRecursion (λ z. x <ℤ z) xs → AllByRecursion (λ z. y <ℤ z) ys → (x ≡ y) ⊎ IsAmong x ys → (y ≡ x) ⊎ IsAmong y xs → x ≡ y
least_same x y xs ys above over (inl e) j = e
least_same x y xs ys above over (inr i) (inl e) = sym e
least_same x y xs ys above over (inr i) (inr j) =
    absurd (<ℤ_irrefl (int_chain x y x (all_among (λ z. x <ℤ z) y xs above j) (all_among (λ z. y <ℤ z) x ys over i)))

-- Numbers behind the least stand behind the least.
behind : (x y : ℤ) (xs ys : List ℤ) → x ≡ y → AllByRecursion (λ z. x <ℤ z) xs → AllByRecursion (λ n. (n ≡ y) ⊎ IsAmong n ys) xs
    → AllByRecursion (λ n. IsAmong n ys) xs
behind x y [] ys e above h = tt
behind x y (z ∷ xs) ys e above h = (one h.0, behind x y xs ys e above.1 h.1)
  where
    one : (z ≡ y) ⊎ IsAmong z ys → IsAmong z ys
    one (inl same) = absurd (<ℤ_irrefl (subst (λ (k : ℤ). k <ℤ z) (e ∙ sym same) above.0))
    one (inr i) = i

pair_same : (f : ℤ → ℕ) (g h : Group) → g.0 ≡ h.0 → g.1 ≡ f g.0 → h.1 ≡ f h.0 → g ≡ h
pair_same f g h e a b =
    let counts : g.1 ≡ h.1 = a ∙ ap f e ∙ sym b in
    ap (λ (n : ℤ). (n, g.1)) e ∙ ap (λ (n : ℕ). (h.0, n)) counts

one_list : (f : ℤ → ℕ) (gs hs : List Group) → IsRising (keys gs) → IsRising (keys hs) → AllByRecursion (λ g. g.1 ≡ f g.0) gs → AllByRecursion (λ g. g.1 ≡ f g.0) hs
    → AllByRecursion (λ n. IsAmong n (keys hs)) (keys gs) → AllByRecursion (λ n. IsAmong n (keys gs)) (keys hs) → gs ≡ hs
one_list f [] [] r s a b i j = refl
one_list f [] (h ∷ hs) r s a b i j = absurd j.0
one_list f (g ∷ gs) [] r s a b i j = absurd i.0
one_list f (g ∷ gs) (h ∷ hs) r s a b i j =
    let least = least_same g.0 h.0 (keys gs) (keys hs) r.0 s.0 i.0 j.0 in
    let rest = one_list f gs hs r.1 s.1 a.1 b.1 (behind g.0 h.0 (keys gs) (keys hs) least r.0 i.1)
    (behind h.0 g.0 (keys hs) (keys gs) (sym least) s.0 j.1) in
    ap (λ (x : Group). x ∷ gs) (pair_same f g h least a.0 b.0) ∙ ap (λ (xs : List Group). h ∷ xs) rest

-- ---- groups

pub often_there : (n : ℤ) (ns : List ℤ) → 0 < how_many n ns → IsAmong n ns
often_there n [] h = absurd (omega (arith, h))
often_there n (m ∷ ms) h = go (λ some. often_there n ms some) (int_eq m n) refl
  where
    go : (0 < how_many n ms → IsAmong n ms) → (b : Bool) → int_eq m n ≡ b → (n ≡ m) ⊎ IsAmong n ms
    go later true e = inl (sym ((Decides-int_eq m n).0 e))
    go later false e = inr (later (let none = ap (λ (b : Bool). bit b) e in omega (arith, h, none)))

keys_come : (ns : List ℤ) (gs : List Group) → AllByRecursion (IsGroupOf ns) gs → AllByRecursion (λ n. IsAmong n ns) (keys gs)
keys_come ns [] h = tt
keys_come ns (g ∷ gs) h = (often_there g.0 ns (let c = h.0.0 in let some = h.0.1 in omega (arith, c, some)), keys_come ns gs h.1)

pub groups_one : GroupsAreOne
groups_one ns gs hs g h =
    one_list (λ n. how_many n ns) gs hs g.rising h.rising
    (all_weaker (IsGroupOf ns) (λ x. x.1 ≡ how_many x.0 ns) (λ x i. i.0) gs g.each)
    (all_weaker (IsGroupOf ns) (λ x. x.1 ≡ how_many x.0 ns) (λ x i. i.0) hs h.each)
    (all_weaker (λ n. IsAmong n ns) (λ n. IsAmong n (keys hs)) (λ n i. all_among (λ m. IsAmong m (keys hs)) n ns h.all i) (keys gs) (keys_come ns gs g.each))
    (all_weaker (λ n. IsAmong n ns) (λ n. IsAmong n (keys gs)) (λ n i. all_among (λ m. IsAmong m (keys gs)) n ns g.all i) (keys hs) (keys_come ns hs h.each))

-- ---- sums

pub sums_stand : (xs gs : List Group) → AllByRecursion (IsSumOf xs) gs → AllByRecursion (λ n. IsAmong n (keys xs)) (keys gs)
sums_stand xs [] h = tt
sums_stand xs (g ∷ gs) h = (h.0.1, sums_stand xs gs h.1)

pub sums_one : SumsAreOne
sums_one xs gs hs g h =
    one_list (λ n. sum_at n xs % 2 ^ 64) gs hs g.rising h.rising
    (all_weaker (IsSumOf xs) (λ x. x.1 ≡ sum_at x.0 xs % 2 ^ 64) (λ x i. i.0) gs g.each)
    (all_weaker (IsSumOf xs) (λ x. x.1 ≡ sum_at x.0 xs % 2 ^ 64) (λ x i. i.0) hs h.each)
    (all_weaker (λ n. IsAmong n (keys xs)) (λ n. IsAmong n (keys hs)) (λ n i. all_among (λ m. IsAmong m (keys hs)) n (keys xs) h.all i) (keys gs) (sums_stand xs gs g.each))
    (all_weaker (λ n. IsAmong n (keys xs)) (λ n. IsAmong n (keys gs)) (λ n i. all_among (λ m. IsAmong m (keys gs)) n (keys xs) g.all i) (keys hs) (sums_stand xs hs h.each))
