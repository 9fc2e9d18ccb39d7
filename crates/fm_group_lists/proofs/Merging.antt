-- Pairs in the order of their numbers, summed up one after the other.
use Rattle.std.proofs.Common.{◌≡◌, ◌≢◌, ℕ, ◌+◌, ◌%◌, ◌^◌, ◌<◌, Bool, true, false, if◌then◌else◌, List, [], ◌∷◌, ◌++◌, refl, sym, ap, ◌∙◌, subst, inl, inr, arith}
use Rattle.std.{specs.{Prelude.{ℤ, ◌<ℤ◌}, List.{AllByRecursion}, Ordering.{int_eq}}, proofs.lemmas.{List.{map-append}, Bool.Decides.{Decides-int_eq}}}
use Rattle.fm_base_lists.{specs.Among.{IsAmong}, proofs.{Among.{among_left, among_right}, Each.{all_among, all_snoc, all_split, all_weaker}}}
use Rattle.fm_group_lists.{specs.Groups.{AreSummed, Group, IsRising, IsSumOf, keys, sum_at}, proofs.Summing.{is_same, sum_at-append}}

is_other : (x y : ℤ) → x ≢ y → int_eq x y ≡ false
is_other x y other =
    let d = Decides-int_eq x y in
    let P : Bool → Type 0 = λ b. int_eq x y ≡ b → int_eq x y ≡ false in
    let go : (b : Bool) → P b = λ b. elim b as P [ true ↦ (λ e. absurd (other (d.0 e))) | false ↦ (λ e. e) ] in
    go (int_eq x y) refl

rising_more : (xs : List ℤ) (k : ℤ) → IsRising xs → AllByRecursion (λ y. y <ℤ k) xs → IsRising (xs ++ k ∷ [])
rising_more [] k r below = (tt, tt)
rising_more (x ∷ xs) k r below = (all_snoc (λ y. x <ℤ y) xs k r.0 below.0, rising_more xs k r.1 below.1)

-- what doesn't stand there sums up to nothing
none_there : (n : ℤ) (xs : List Group) → ¬ (IsAmong n (keys xs)) → sum_at n xs ≡ 0
none_there n [] not = refl
none_there n (x ∷ xs) not =
    let rest = none_there n xs (λ i. not (inr i)) in
    let here = ap (λ (b : Bool). if b then x.1 else 0) (is_other x.0 n (λ e. not (inl (sym e)))) in
    omega (arith, rest, here)

module _ (apart : (x y : ℤ) → x <ℤ y → x ≢ y) (xs : List Group) (k : ℤ) (d : ℕ) where
  abbrev more : List Group
  more = xs ++ (k, d) ∷ []

  pub keys_more : (ys : List Group) (c : ℕ) → keys (ys ++ (k, c) ∷ []) ≡ keys ys ++ k ∷ []
  keys_more ys c = map-append (λ (g : Group). g.0) ys ((k, c) ∷ [])

  other_sum : (n : ℤ) → n ≢ k → sum_at n (xs ++ (k, d) ∷ []) ≡ sum_at n xs
  other_sum n other =
      let both = sum_at-append n xs ((k, d) ∷ []) in
      let here = ap (λ (b : Bool). if b then d else 0) (is_other k n (λ e. other (sym e))) in
      omega (arith, both, here)

  this_sum : sum_at k (xs ++ (k, d) ∷ []) ≡ sum_at k xs + d
  this_sum =
      let both = sum_at-append k xs ((k, d) ∷ []) in
      let here = ap (λ (b : Bool). if b then d else 0) (is_same k k refl) in
      omega (arith, both, here)

  among_more : (n : ℤ) → IsAmong n (keys xs) → IsAmong n (keys (xs ++ (k, d) ∷ []))
  among_more n i = subst (λ (ks : List ℤ). IsAmong n ks) (sym (keys_more xs d)) (among_left n (keys xs) (k ∷ []) i)

  this_among : IsAmong k (keys (xs ++ (k, d) ∷ []))
  this_among = subst (λ (ks : List ℤ). IsAmong k ks) (sym (keys_more xs d)) (among_right k (keys xs) (k ∷ []) (inl refl))

  still : (gs : List Group) → AllByRecursion (λ y. y <ℤ k) (keys gs) → AllByRecursion (IsSumOf xs) gs → AllByRecursion (IsSumOf (xs ++ (k, d) ∷ [])) gs
  still [] below h = tt
  still (g ∷ gs) below h = (
    (h.0.0 ∙ ap (λ n. n % 2 ^ 64) (sym (other_sum g.0 (apart g.0 k below.0))), among_more g.0 h.0.1),
    still gs below.1 h.1,
  )

  -- A number above all others.
  pub summed_new : (gs : List Group) → AreSummed xs gs → AllByRecursion (λ y. y <ℤ k) (keys gs) → d < 2 ^ 64 → AreSummed (xs ++ (k, d) ∷ []) (gs ++ (k, d) ∷ [])
  summed_new gs h below small =
      let new : ¬ (IsAmong k (keys xs)) = λ i. absurd (apart k k (all_among (λ y. y <ℤ k) k (keys gs) below (all_among (λ n. IsAmong n (keys gs)) k (keys xs) h.all i)) refl) in
      let none = none_there k xs new in
      let sum = this_sum in
      record {
        rising = subst IsRising (sym (keys_more gs d)) (rising_more (keys gs) k h.rising below);
        each = all_snoc (IsSumOf (xs ++ (k, d) ∷ [])) gs (k, d) (still gs below h.each) (omega (arith, none, sum, small), this_among);
        all = subst (λ (ks : List ℤ). AllByRecursion (λ n. IsAmong n (keys (gs ++ (k, d) ∷ []))) ks) (sym (keys_more xs d))
            (all_snoc (λ n. IsAmong n (keys (gs ++ (k, d) ∷ []))) (keys xs) k
            (all_weaker (λ n. IsAmong n (keys gs)) (λ n. IsAmong n (keys (gs ++ (k, d) ∷ [])))
            (λ n i. subst (λ (ks : List ℤ). IsAmong n ks) (sym (keys_more gs d)) (among_left n (keys gs) (k ∷ []) i)) (keys xs) h.all)
            (subst (λ (ks : List ℤ). IsAmong k ks) (sym (keys_more gs d)) (among_right k (keys gs) (k ∷ []) (inl refl))));
      }

  -- The last number again.
  pub summed_same : (gs : List Group) (c : ℕ) → AreSummed xs (gs ++ (k, c) ∷ []) → AllByRecursion (λ y. y <ℤ k) (keys gs)
      → AreSummed (xs ++ (k, d) ∷ []) (gs ++ (k, (c + d) % 2 ^ 64) ∷ [])
  summed_same gs c h below =
      let parts = all_split (IsSumOf xs) gs ((k, c) ∷ []) h.each in
      let was = parts.1.0.0 in
      let sum = this_sum in
      let same : keys (gs ++ (k, c) ∷ []) ≡ keys (gs ++ (k, (c + d) % 2 ^ 64) ∷ []) = keys_more gs c ∙ sym (keys_more gs ((c + d) % 2 ^ 64)) in
      record {
        rising = subst IsRising same h.rising;
        each = all_snoc (IsSumOf (xs ++ (k, d) ∷ [])) gs (k, (c + d) % 2 ^ 64) (still gs below parts.0) (omega (arith, was, sum), this_among);
        all = subst (λ (ks : List ℤ). AllByRecursion (λ n. IsAmong n (keys (gs ++ (k, (c + d) % 2 ^ 64) ∷ []))) ks) (sym (keys_more xs d))
            (subst (λ (js : List ℤ). AllByRecursion (λ n. IsAmong n js) (keys xs ++ k ∷ [])) same
            (all_snoc (λ n. IsAmong n (keys (gs ++ (k, c) ∷ []))) (keys xs) k h.all
            (subst (λ (ks : List ℤ). IsAmong k ks) (sym (keys_more gs c)) (among_right k (keys gs) (k ∷ []) (inl refl)))));
      }
