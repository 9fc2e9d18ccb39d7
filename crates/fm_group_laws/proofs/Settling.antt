-- What a count comes to, where its entries fit the last words of the table and the records' bytes.
use Rattle.std.proofs.Common.{◌≡◌, ◌≢◌, ℕ, suc, ◌+◌, ◌-◌, ◌<◌, ◌==◌, true, false, if◌then◌else◌, List, [], ◌++◌, length, refl, sym, ap, ◌∙◌, subst, inl, inr, arith, Some, None, Ok, Err}
use Rattle.std.{specs.{Prelude.{ℤ, nat_lt}}, proofs.lemmas.{Bool.{cases_lt, Decides.{nat_tests}}}}
use Rattle.fm_base_lists.proofs.Each.{all_split}
use Rattle.fm_base.specs.{declared.{caller.Caller.{Caller}, refusal.Refusal.{TheVariants.{TableFull}}}, Calls.{Entry}}
use Rattle.fm_base_laws.specs.{Claims.{claimed_as}}
use Rattle.fm_records.specs.{Bytes.{FindAs}, Values.{number_there}, Words.{kept_none}}
use Rattle.fm_records.proofs.ReadingBytes.{agree, number_of_bytes}
use Rattle.fm_group.specs.{Values.{AreValued, Valued, count_of, number_in, offset_of}, Table.{Counter, claim_word, named_by, places_in, tried_at}}
use Rattle.fm_group.specs.Counting.{CountsAt, DoesCount, FindsClaim, PassesBy, PassesFirst, ReadsValue, add_one, claim_try, claims, meets, none_yet, one_more, other, unnamed}
use Rattle.fm_group.proofs.{FirstPlaces.{each_tried}, Naming.{named_one}, Ordinals.{value_lies}}
use Rattle.fm_group_laws.{specs.Standing.{Fit, key_at, number_if}, proofs.Trying.{tried_within}}

-- ---- numbers by the bytes

-- The claim of a value names it.
pub names_itself : (v : Valued) (n : ℕ) → n < count_of v → named_by v (n + 1) ≡ Some n
names_itself v n below =
    let next : n + 1 ≡ suc n = omega arith in
    let test : nat_lt n (count_of v) ≡ true = grind (arith, nat_tests) in
    ap (named_by v) next ∙ ap (λ b. if b then Some n else None) test

module _ (v : Valued) (are : AreValued v) (bytes : List ℕ) (size : length bytes ≡ v.records.size) where
  -- A value's number is that of the bytes that its Reads found.
  pub value_by : (c : Caller) (n : ℕ) (x : ℤ) (own : List Entry) → n < count_of v → ReadsValue c v n (Ok x) own → FindAs v.records bytes own → x ≡ number_in v bytes n
  value_by c n x own below h finds =
      let found = subst (FindAs v.records bytes) h.visits finds in
      let offset : v.records.first + offset_of v n - v.records.first ≡ offset_of v n = omega arith in
      number_of_bytes c v.records bytes size kept_none [] [] v.path.value (v.records.first + offset_of v n) h.seen x h.does
      (value_lies v are n below) tt (agree c v.records bytes size h.seen found)
      ∙ ap (λ k. number_there v.path.value.kind v.path.value.order k bytes) offset

-- ---- entries that fit

module _ (w : Counter) (bytes : List ℕ) (word : ℕ → ℕ) where
  pub fit_split : (es fs : List Entry) → Fit w bytes word (es ++ fs) → Fit w bytes word es × Fit w bytes word fs
  fit_split es fs h = (
    record {
      claims = λ p within. (all_split _ es fs (h.claims p within)).0;
      finds = (all_split _ es fs h.finds).0;
    },
    record {
      claims = λ p within. (all_split _ es fs (h.claims p within)).1;
      finds = (all_split _ es fs h.finds).1;
    },
  )

  fit_as : {es fs : List Entry} → es ≡ fs → Fit w bytes word es → Fit w bytes word fs
  fit_as e h = subst (λ (xs : List Entry). Fit w bytes word xs) e h

  as_there : (found new : ℕ) → found ≢ 0 → claimed_as found new ≡ found
  as_there found new some = let not : (found == 0) ≡ false = grind (arith, nat_tests) in rw not refl

  some_named : (v : Valued) (found m : ℕ) → named_by v found ≡ Some m → found ≢ 0
  some_named v found m e none = absurd (cc)

  module _ (are : AreValued w.values) (size : length bytes ≡ w.values.records.size) (c : Caller) (n : ℕ) (x : ℤ) where
    module _ (p : ℕ) (within : p < places_in w.table) where
      -- what a try found stands there
      tried_stands : (found : ℕ) → Fit w bytes word (claim_try c w n p found) → word (claim_word w.table p) ≡ claimed_as found (n + 1)
      tried_stands found h = (h.claims p within).1.0 (n + 1) found refl refl

      -- the claim of a value that was read
      pub found_key : (y : ℤ) (own : List Entry) → FindsClaim c w n x p (Ok y) own → Fit w bytes word own → key_at w bytes word p ≡ Some y
      found_key y own f h =
          let parts = fit_split (claim_try c w n p f.found) f.reads (fit_as f.parts h) in
          let there = tried_stands f.found parts.0 ∙ as_there f.found (n + 1) (some_named w.values f.found f.value f.names) in
          let read = value_by w.values are bytes size c f.value y f.reads (named_one w.values f.found f.value f.names) f.read parts.1.finds in
          ap (λ m. number_if w.values bytes (named_by w.values m)) there ∙ ap (λ o. number_if w.values bytes o) f.names ∙ ap Some (sym read)

      -- where it was counted, its like stands
      counted_key : n < count_of w.values → x ≡ number_in w.values bytes n → (own : List Entry) → CountsAt c w n x p own → Fit w bytes word own
          → key_at w bytes word p ≡ Some x
      counted_key below is own (claims count) h =
          let there : word (claim_word w.table p) ≡ n + 1 = (h.claims p within).1.0 (n + 1) 0 refl refl in
          ap (λ m. number_if w.values bytes (named_by w.values m)) there ∙ ap (λ o. number_if w.values bytes o) (names_itself w.values n below) ∙ ap Some (sym is)
      counted_key below is own (meets count first f) h = found_key x first f (fit_split first (add_one c w p count) h).0

      -- where it was passed by, a claim stands
      passed_claim : (own : List Entry) → PassesBy c w n x p own → Fit w bytes word own → word (claim_word w.table p) ≢ 0
      passed_claim own (unnamed found some none) h = λ e. some (sym (as_there found (n + 1) some) ∙ sym (tried_stands found h) ∙ e)
      passed_claim own (other y all apart f) h =
          let parts = fit_split (claim_try c w n p f.found) f.reads (fit_as f.parts h) in
          let some = some_named w.values f.found f.value f.names in
          λ e. some (sym (as_there f.found (n + 1) some) ∙ sym (tried_stands f.found parts.0) ∙ e)

    -- at each of the first places
    passed_claims : (k : ℕ) (own : List Entry) → PassesFirst c w n x k own → Fit w bytes word own → 0 < places_in w.table → (j : ℕ) → j < k
        → word (claim_word w.table (tried_at w x j)) ≢ 0
    passed_claims k own none_yet h some j below = absurd (omega (arith, below))
    passed_claims k own (one_more {k = i} first more before now) h some j below =
        let parts = fit_split first more h in
        elim (cases_lt j i) [
          | inl under ↦ passed_claims i first before parts.0 some j under
          | inr here ↦ (
              let same : j ≡ i = omega (arith, here, below) in
              subst (λ (m : ℕ). word (claim_word w.table (tried_at w x m)) ≢ 0) (sym same)
              (passed_claim (tried_at w x i) (tried_within w x i some) more now parts.1))
        ]

  module _ (are : AreValued w.values) (size : length bytes ≡ w.values.records.size) (some : 0 < places_in w.table) (c : Caller) (n : ℕ)
      (below : n < count_of w.values) where
    -- A count ends at a place where its number stands.
    pub settles : (p : ℕ) (own : List Entry) → DoesCount c w n (Ok p) own → Fit w bytes word own
        → (p < places_in w.table) × (key_at w bytes word p ≡ Some (number_in w.values bytes n))
    settles p own d h =
        let r = d.1 in
        let parts = fit_split r.reads r.tries (fit_as r.parts h) in
        let is = value_by w.values are bytes size c n r.number r.reads below r.read parts.0.finds in
        let t = r.tried in
        let ends = fit_split t.before t.last (fit_as t.parts parts.1) in
        let within : p < places_in w.table = subst (λ (q : ℕ). q < places_in w.table) (sym t.place) (tried_within w r.number t.k some) in
        (within, counted_key are size c n r.number p within below is t.last t.ended ends.1 ∙ ap Some is)

    -- Where the table was found full, each place is claimed.
    pub full : (own : List Entry) → DoesCount c w n (Err TableFull) own → Fit w bytes word own → (p : ℕ) → p < places_in w.table
        → word (claim_word w.table p) ≢ 0
    full own d h p within =
        let r = d.1 in
        let parts = fit_split r.reads r.tries (fit_as r.parts h) in
        let k = each_tried w.order (places_in w.table) r.number p within in
        subst (λ (q : ℕ). word (claim_word w.table q) ≢ 0) k.2
        (passed_claims are size c n r.number (places_in w.table) r.tries r.tried parts.1 some k.0 k.1)
