-- Pairs in the order of their numbers: what is put behind them keeps the sums.
use Rattle.std.proofs.Common.{◌≡◌, ◌≢◌, ℕ, zero, suc, ◌+◌, ◌^◌, ◌<◌, List, [], ◌∷◌, ◌++◌, length, get_or, take, sym, ap, subst, inl, inr, arith}
use Rattle.std.{specs.{Prelude.{ℤ, ◌<ℤ◌, ◌≤ℤ◌}, List.{AllByRecursion}, Int.Signed.{<ℤ_irrefl}}, proofs.lemmas.Int.{by_lt_z, ints}}
use Rattle.fm_base_lists.{specs.Among.{IsAmong}, proofs.Each.{all_at, all_split, all_weaker}}
use Rattle.fm_group_lists.{specs.{Climbing.{EndsElsewhere, IsClimbing, Puts, again, first}, Groups.{AreSummed, Group, IsRising, keys}}, proofs.{Merging.{keys_more, summed_new, summed_same}, One.{sums_stand}}}

apart : (x y : ℤ) → x <ℤ y → x ≢ y
apart x y low e = <ℤ_irrefl (subst (λ (k : ℤ). k <ℤ y) e low)

-- What rises up to a last number is below it.
rising_below : (ks : List ℤ) (n : ℤ) → IsRising (ks ++ n ∷ []) → AllByRecursion (λ y. y <ℤ n) ks
rising_below [] n r = tt
rising_below (k ∷ ks) n r = ((all_split (λ y. k <ℤ y) ks (n ∷ []) r.0).1.0, rising_below ks n r.1)

-- What rises, and isn't above a number that doesn't stand at the end, is below it.
below_last : (gs : List Group) (n : ℤ) → IsRising (keys gs) → AllByRecursion (λ y. y ≤ℤ n) (keys gs) → EndsElsewhere n gs → AllByRecursion (λ y. y <ℤ n) (keys gs)
below_last [] n r h e = tt
below_last (g ∷ []) n r h e = (by_lt_z g.0 n (λ low. low) (λ high. absurd (e [] g.1 (ap (λ (k : ℤ). (k, g.1) ∷ []) (same high)))), tt)
  where
    same : n ≤ℤ g.0 → g.0 ≡ n
    same high = let low = h.0 in omega (arith, ints, low, high)
below_last (g ∷ x ∷ gs) n r h e =
    let rest = below_last (x ∷ gs) n r.1 h.1 (λ before count is. e (g ∷ before) count (ap (λ (ys : List Group). g ∷ ys) is)) in
    let one = r.0.0 in
    let two = rest.0 in
    (omega (arith, ints, one, two), rest)

-- One pair more, whose number isn't below the others.
pub put_summed : {n : ℤ} {d : ℕ} {gs hs : List Group} (xs : List Group) → Puts n d gs hs → AreSummed xs gs → AllByRecursion (λ (x : Group). x.0 ≤ℤ n) xs → d < 2 ^ 64
    → AreSummed (xs ++ (n, d) ∷ []) hs
put_summed {n} {d} xs (again gs c) s high small =
    summed_same apart xs n d gs c s (rising_below (keys gs) n (subst IsRising (keys_more apart xs n d gs c) s.rising))
put_summed {n} {d} xs (first gs e) s high small =
    summed_new apart xs n d gs s (below_last gs n s.rising (all_weaker (λ k. IsAmong k (keys xs)) (λ k. k ≤ℤ n) (all_keys xs high) (keys gs) (sums_stand xs gs s.each)) e) small
  where
    all_keys : (ys : List Group) → AllByRecursion (λ (x : Group). x.0 ≤ℤ n) ys → (k : ℤ) → IsAmong k (keys ys) → k ≤ℤ n
    all_keys [] h k i = absurd i
    all_keys (y ∷ ys) h k (inl is) = subst (λ (j : ℤ). j ≤ℤ n) (sym is) h.0
    all_keys (y ∷ ys) h k (inr i) = all_keys ys h.1 k i

-- None before a pair is above it.
pub climb_to : (xs : List Group) (k : ℕ) (d : Group) → IsClimbing xs → k < length xs → AllByRecursion (λ (x : Group). x.0 ≤ℤ (get_or xs k d).0) (take k xs)
climb_to [] k d h below = absurd (omega (arith, below))
climb_to (x ∷ xs) zero d h below = tt
climb_to (x ∷ xs) (suc k) d h below =
    let low : k < length xs = omega (arith, below) in
    (all_at (λ (y : Group). x.0 ≤ℤ y.0) k xs d h.0 low, climb_to xs k d h.1 low)

-- Where each is at most the next, they climb.
pub climbing : (xs : List Group) → ((k : ℕ) (d : Group) → k + 1 < length xs → (get_or xs k d).0 ≤ℤ (get_or xs (k + 1) d).0) → IsClimbing xs
climbing [] h = tt
climbing (x ∷ []) h = (tt, tt)
climbing (x ∷ y ∷ xs) h =
    let rest = climbing (y ∷ xs) (λ k d low. next k d (h (suc k) d (omega (arith, low)))) in
    let one : x.0 ≤ℤ y.0 = h 0 x (omega arith) in
    ((one, all_weaker (λ (z : Group). y.0 ≤ℤ z.0) (λ (z : Group). x.0 ≤ℤ z.0) (λ z up. omega (arith, ints, one, up)) xs rest.0), rest)
  where
    next : (k : ℕ) (d : Group) → (get_or (y ∷ xs) k d).0 ≤ℤ (get_or (x ∷ y ∷ xs) (suc k + 1) d).0 → (get_or (y ∷ xs) k d).0 ≤ℤ (get_or (y ∷ xs) (k + 1) d).0
    next k d low =
        let at : suc k + 1 ≡ suc (k + 1) = omega arith in
        subst (λ j. (get_or (y ∷ xs) k d).0 ≤ℤ (get_or (x ∷ y ∷ xs) j d).0) at low
