-- What shares come to.
use Rattle.std.proofs.Common.{◌≡◌, ◌≢◌, ℕ, ◌+◌, ◌-◌, ◌<◌, ◌≤◌, List, [], ◌∷◌, ◌++◌, length, map, refl, sym, ap, ◌∙◌, subst, arith, Some, Result, Ok, Err}
use Rattle.std.{specs.{Prelude.{ℤ}, List.{AllByRecursion, AllZip, range_with_len}}, proofs.lemmas.{List.FromFn.{map-range_with_len_more}}}
use Rattle.fm_base_lists.{proofs.Each.{all_both}}
use Rattle.fm_base.specs.{declared.{caller.Caller.{Caller}, refusal.Refusal.{Refusal, TheVariants.{TableFull}}}, Calls.{Entry}, Counting.{adds_to, weighed}}
use Rattle.fm_group_lists.specs.{Settled.{times_of}}
use Rattle.fm_group.specs.{Values.{AreValued, count_of, number_in}, Table.{Counter, claim_word, count_word, places_in}}
use Rattle.fm_group_laws.specs.{Shares.{CountsTo, DoesShare, none_counted, one_counted}, Standing.{Fit, claims_to, key_at}, Touching.{Touches}}
use Rattle.fm_group_laws.proofs.{Settling.{fit_split, full, settles}, Trying.{count_touch}, Weighing.{count_adds, count_claims, full_claims, weighed-append}}

-- lists side by side, one behind the other
pub zip_both : {A B : Type 0} (R : A → B → Type 0) (xs zs : List A) (ys us : List B) → AllZip R xs ys → AllZip R zs us → AllZip R (xs ++ zs) (ys ++ us)
zip_both R [] zs [] us h k = k
zip_both R (x ∷ xs) zs (y ∷ ys) us h k = (h.0, zip_both R xs zs ys us h.1 k)
zip_both R xs zs ys us h k = absurd h

pub times_of-append : (q : ℕ) (xs ys : List ℕ) → times_of q (xs ++ ys) ≡ times_of q xs + times_of q ys
times_of-append q [] ys = omega arith
times_of-append q (x ∷ xs) ys = let h = times_of-append q xs ys in omega (arith, h)

module _ (c : Caller) (w : Counter) (some : 0 < places_in w.table) (from : ℕ) where
  counted_above : (k : ℕ) (ps : List ℕ) (own : List Entry) → CountsTo c w from k ps own → from ≤ k
  counted_above k ps own none_counted = omega arith
  counted_above k ps own (one_counted {k = j} {ps = qs} p first more h d) = let below = counted_above j qs first h in omega (arith, below)

  -- Claims and counts alone are touched.
  pub counted_touch : (k : ℕ) (ps : List ℕ) (own : List Entry) → CountsTo c w from k ps own → AllByRecursion (λ e. Touches w e.call) own
  counted_touch k ps own none_counted = tt
  counted_touch k ps own (one_counted {k = j} {ps = qs} p first more h d) =
      all_both (λ e. Touches w e.call) first more (counted_touch j qs first h) (count_touch c w some j (Ok p) more d)

  pub share_touch : (to : ℕ) (r : Result (Unit {0}) Refusal) (own : List Entry) → DoesShare c w from to r own → AllByRecursion (λ e. Touches w e.call) own
  share_touch to (Ok u) own d = counted_touch to d.0 own d.1
  share_touch to (Err r) own d = subst (λ (es : List Entry). AllByRecursion (λ e. Touches w e.call) es) (sym d.parts)
      (all_both (λ e. Touches w e.call) d.before d.last (counted_touch d.at d.places d.before d.counted) (count_touch c w some d.at (Err r) d.last d.refused))

  -- One is added for each ordinal, at its place.
  pub counted_adds : (q k : ℕ) (ps : List ℕ) (own : List Entry) → CountsTo c w from k ps own
      → weighed (λ e. adds_to w.table.arena (count_word w.table q) e.call) own ≡ times_of q ps
  counted_adds q k ps own none_counted = refl
  counted_adds q k ps own (one_counted {k = j} {ps = qs} p first more h d) =
      let both = weighed-append (λ e. adds_to w.table.arena (count_word w.table q) e.call) first more in
      let before = counted_adds q j qs first h in
      let now = count_adds c w q j p more d in
      let times = times_of-append q qs (p ∷ []) in
      omega (arith, both, before, now, times)

  -- Each claims one place at most.
  pub counted_claims : (m k : ℕ) (ps : List ℕ) (own : List Entry) → CountsTo c w from k ps own → weighed (claims_to w m) own ≤ k - from
  counted_claims m k ps own none_counted = omega arith
  counted_claims m k ps own (one_counted {k = j} {ps = qs} p first more h d) =
      let both = weighed-append (claims_to w m) first more in
      let before = counted_claims m j qs first h in
      let now = count_claims c w m j (Ok p) more d in
      let above = counted_above j qs first h in
      omega (arith, both, before, now, above)

  pub share_claims : (m to : ℕ) (r : Result (Unit {0}) Refusal) (own : List Entry) → from ≤ to → DoesShare c w from to r own → weighed (claims_to w m) own ≤ to - from
  share_claims m to (Ok u) own low d = counted_claims m to d.0 own d.1
  share_claims m to (Err r) own low d =
      let both = weighed-append (claims_to w m) d.before d.last in
      let is = ap (λ (es : List Entry). weighed (claims_to w m) es) d.parts in
      let before = counted_claims m d.at d.places d.before d.counted in
      let now = count_claims c w m d.at (Err r) d.last d.refused in
      let above = d.above in let below = d.below in
      omega (arith, both, is, before, now, above, below)

  -- One that found the table full claimed fewer places.
  pub full_share : (m to : ℕ) (own : List Entry) → DoesShare c w from to (Err TableFull) own → weighed (claims_to w m) own + 1 ≤ to - from
  full_share m to own d =
      let both = weighed-append (claims_to w m) d.before d.last in
      let is = ap (λ (es : List Entry). weighed (claims_to w m) es) d.parts in
      let before = counted_claims m d.at d.places d.before d.counted in
      let now = full_claims c w m d.at d.last d.refused in
      let above = d.above in let below = d.below in
      omega (arith, both, is, before, now, above, below)

  -- ---- where its entries fit

  module _ (bytes : List ℕ) (word : ℕ → ℕ) (are : AreValued w.values) (size : length bytes ≡ w.values.records.size) where
    pub counted_settle : (k : ℕ) (ps : List ℕ) (own : List Entry) → k ≤ count_of w.values → CountsTo c w from k ps own → Fit w bytes word own
        → AllByRecursion (λ p. p < places_in w.table) ps
        × AllZip (λ p x. key_at w bytes word p ≡ Some x) ps (map (number_in w.values bytes) (range_with_len from (k - from)))
    counted_settle k ps own most none_counted fit =
        let none : from - from ≡ 0 = omega arith in
        (tt, subst (λ (n : ℕ). AllZip (λ p x. key_at w bytes word p ≡ Some x) [] (map (number_in w.values bytes) (range_with_len from n))) (sym none) tt)
    counted_settle k ps own most (one_counted {k = j} {ps = qs} p first more h d) fit =
        let parts = fit_split w bytes word first more fit in
        let rest = counted_settle j qs first (omega (arith, most)) h parts.0 in
        let one = settles w bytes word are size some c j (omega (arith, most)) p more d parts.1 in
        let above = counted_above j qs first h in
        let long : j + 1 - from ≡ j - from + 1 = omega (arith, above) in
        let at : from + (j - from) ≡ j = omega (arith, above) in
        let numbers : map (number_in w.values bytes) (range_with_len from (j + 1 - from))
        ≡ map (number_in w.values bytes) (range_with_len from (j - from)) ++ number_in w.values bytes j ∷ [] =
        ap (λ n. map (number_in w.values bytes) (range_with_len from n)) long ∙ map-range_with_len_more (number_in w.values bytes) from (j - from) j at in (
          all_both (λ q. q < places_in w.table) qs (p ∷ []) rest.0 (one.0, tt),
          subst (λ (ns : List ℤ). AllZip (λ q x. key_at w bytes word q ≡ Some x) (qs ++ p ∷ []) ns) (sym numbers)
              (zip_both (λ q x. key_at w bytes word q ≡ Some x) qs (p ∷ []) (map (number_in w.values bytes) (range_with_len from (j - from)))
              (number_in w.values bytes j ∷ []) rest.1 (one.1, tt)),
        )

    -- Where it found the table full, each place is claimed.
    pub share_full : (to : ℕ) (own : List Entry) → to ≤ count_of w.values → DoesShare c w from to (Err TableFull) own → Fit w bytes word own → (p : ℕ)
        → p < places_in w.table → word (claim_word w.table p) ≢ 0
    share_full to own most d fit p within =
        let parts = fit_split w bytes word d.before d.last (subst (λ (es : List Entry). Fit w bytes word es) d.parts fit) in
        let below = d.below in
        full w bytes word are size some c d.at (omega (arith, most, below)) d.last d.refused parts.1 p within
