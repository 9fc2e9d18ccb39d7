-- What a caller learns of a handle's calls, from what they did.
use Rattle.std.proofs.Common.{◌≡◌, ◌≢◌, ℕ, ℤ, Bool, true, MatchBool, List, length, SFits, w64, sym, ap, subst, ◌∙◌, None, Result, Ok, Err}
use Rattle.fm_base.specs.{declared.{caller.Caller.{Caller}, arena_id.ArenaId.{ArenaId}, refusal.Refusal.{Refusal}}, Calls.{Entry}}
use Rattle.fm_base.{specs.{View.{View, Did, IsByItself, inside_after}, Visits.{Acts}}, proofs.Running.{visit_ends_outside}}
use Rattle.fm_lanes.specs.{declared.{order.Order.{Order}, value.Value.{Value}}, Value.{kind_of}}
use Rattle.fm_path.specs.{declared.value_spec.ValueSpec.{ValueSpec}, Resolution.{Resolution}}
use Rattle.fm_segment_access.{specs.Found.{DoesAt}, proofs.{Causes.{entering}, Learning.{IsCall, after_at, after_get_at, after_put_at, after_said}}}
use Rattle.fm_segment_access.proofs.{Outside.{EndsOutside, enter_outside}, Values.{kind_of-decoded}}
use Rattle.fm_segment.{specs.{Access.{IsKnown}, Learnt.{KnowsSegment}, Region.{Region}}, proofs.Access.{known_still}}
use Rattle.fm_handle.specs.Access.{DoesVisit, DoesGet, DoesSet, DoesSetLong, DoesExchangeLong, DoesAddLong, DoesExchange, DoesAdd}
use Rattle.fm_handle.specs.{Acts.{Stores, ExchangesLong, AddsLong, Exchanges, puts, finds_another, Adds, word_of}, Alone.{FindsValue, PutsValue}}
use Rattle.fm_handle.specs.Causes.{UpdateCause}
use Rattle.fm_handle.specs.Learnt.{CanCall, CanPut, CanExchange, AfterGet, AfterSet, AfterUpdate, AfterCompareAndSet, AfterExchange, AfterAdd, AfterSetLong, AfterExchangeLong, AfterAddLong}
use Rattle.fm_handle.specs.Place.{FindsWhere, ValueStands, place_of, writable_place_of, update_place_of, value_place, can_update, fills_word, is_word}
use Rattle.fm_handle.proofs.{Alone.{place_is, writable_place_is, update_place_is}, Causes.{get_causes, set_causes, update_causes}}
use Rattle.fm_handle.proofs.{Longs.{exchange_long_alone, add_long_alone}, Places.{in_one_word, whole_word, word_parts}}
use Rattle.fm_handle.proofs.{Updating.{visit_shut, exchange_alone, expected_set, add_alone, store_alone}, Visiting.{reaches, won, not_made}, Words.{word_means}}

module _ {old new : View} {h : Resolution} {r : Region} (base : ℕ) {is : List ℕ} where
  -- All that is learnt of `get`.
  pub after_get : {result : Result Value Refusal} → CanCall old h r is → Did old new (DoesGet old.caller h r (place_of base is h r) result)
      → AfterGet old new h r base is result
  after_get {result} can d =
      after_get_at old new h.value.kind h.value.order r.arena (place_of base is h r) _ _ _ result
      can.outside (get_causes base is h r old.caller can.indices) (λ w. known_still old new r w can.known)
      (λ p v e f. subst (λ (n : ℕ). FindsValue old new h.value r.arena n v) (place_is base is h r can.indices p e) f) d

  -- All that is learnt of `set`.
  pub after_set : {x : Value} {result : Result (Unit {0}) Refusal} → CanPut old h r is x
      → Did old new (DoesSet old.caller h r (writable_place_of base is h r) x result) → AfterSet old new h r base is x result
  after_set {x} {result} can d =
      after_put_at old new h.value.kind h.value.order r.arena x (writable_place_of base is h r) _ _ _ result
      can.outside (set_causes base is h r old.caller can.indices) (λ w. known_still old new r w can.known) can.value can.known.arena
      (λ p e f. subst (λ (n : ℕ). PutsValue old new h.value r.arena n x) (writable_place_is base is h r can.indices p e) f) d

-- ---- updates

visit_ends : {X : Type 0} (c : Caller) (id : ArenaId) (Give : X → Acts → Type 0) (result : Result X Refusal) (own : List Entry)
    → DoesVisit c id Give result own → EndsOutside own
visit_ends c id Give (Ok x) own d = ap (inside_after None) d.1.visits ∙ visit_ends_outside None c id d.1.acts
visit_ends c id Give (Err e) own d = enter_outside c id e own d

visits : {X : Type 0} (c : Caller) (id : ArenaId) (Give : X → Acts → Type 0) → IsCall c id (DoesVisit c id Give)
visits c id Give = record {
  refuses = λ e own d. entering c id e own d;
  outside = λ result own d. visit_ends c id Give result own d;
}

exchange_kind : {o : Order} {id : ArenaId} {p : ℕ} {expected v x : Value} {acts : Acts} → kind_of expected ≡ kind_of v → Exchanges o id p expected v x acts
    → kind_of x ≡ kind_of v
exchange_kind same (puts word these value t) = same
exchange_kind {v = v} same (finds_another word other these value differs cut) = ap kind_of value ∙ kind_of-decoded (kind_of v) _

module _ {old new : View} {h : Resolution} {r : Region} {base : ℕ} {is : List ℕ} {found : Result ℕ Refusal} where
  -- All that is learnt of an update: of one visit to the place that was found, or of the refusal before.
  after_update : {X : Type 0} (works_on : ValueSpec → Bool) (Give : ℕ → X → Acts → Type 0) (Alone Kind : X → Type 0) (result : Result X Refusal)
      → IsKnown old r → old.inside ≡ None → length is ≡ length h.dims → FindsWhere (works_on h.value) base is h r found
      → ((x : X) → works_on h.value ≡ true → ValueStands h r (value_place base is h r)
      → Did old new (DoesVisit old.caller r.arena (Give (value_place base is h r)) (Ok x)) → IsByItself old → Alone x)
      → ((p : ℕ) (x : X) (acts : Acts) → Give p x acts → Kind x)
      → Did old new (DoesAt (update_place_of works_on base is h r) (λ place. DoesVisit old.caller r.arena (Give place)) result)
      → AfterUpdate old new h r base is works_on (λ at. DoesAt at (λ place. DoesVisit old.caller r.arena (Give place))) Alone Kind result
  after_update works_on Give Alone Kind result known out len f there kind d =
      after_at old new r.arena (λ place. DoesVisit old.caller r.arena (Give place)) Alone Kind (update_place_of works_on base is h r)
      (UpdateCause works_on base is h r old.caller) (KnowsSegment r) result
      out (update_causes base is h r old.caller len works_on) (λ p. visits old.caller r.arena (Give p))
      (record {
        alone = λ p x e d alone.
            let here = reaches f (f.place ∙ e) in
            let is = update_place_is base is h r len works_on p e in
            there x here.0 (subst (ValueStands h r) is here.1)
            (subst (λ (n : ℕ). Did old new (DoesVisit old.caller r.arena (Give n) (Ok x))) is d) alone;
        shut = λ p e d alone. visit_shut e alone d;
        kind = λ p x own d. kind p x d.1.acts d.1.are;
      })
      (λ w. known_still old new r w known) d

  -- All that is learnt of `compare_and_exchange`.
  pub after_exchange : {expected x : Value} {result : Result Value Refusal} → CanExchange old h r is expected x
      → FindsWhere (can_update h.value) base is h r found → Did old new (DoesExchange old.caller h r (update_place_of can_update base is h r) expected x result)
      → AfterExchange old new h r base is expected x result
  after_exchange {expected} {x} can f d =
      after_update can_update (λ place. Exchanges h.value.order r.arena place expected x) _ _ _ can.known can.outside can.indices f
      (λ y works stands d alone. exchange_alone can.value (in_one_word h r _ stands works) d alone)
      (λ p y acts g. exchange_kind (can.expected ∙ sym can.value) g ∙ can.value) d

  -- All that is learnt of `get_and_add`.
  pub after_add : {delta : Value} {result : Result Value Refusal} → CanPut old h r is delta → FindsWhere (can_update h.value) base is h r found
      → Did old new (DoesAdd old.caller h r (update_place_of can_update base is h r) delta result) → AfterAdd old new h r base is delta result
  after_add {delta} can f d =
      after_update can_update (λ place. Adds h.value.order r.arena place delta) _ _ _ can.known can.outside can.indices f
      (λ y works stands d alone. add_alone can.value (in_one_word h r _ stands works) d alone)
      (λ p y acts g. ap kind_of g.value ∙ kind_of-decoded (kind_of delta) _ ∙ can.value) d

  -- All that is learnt of `set_long`.
  pub after_set_long : {n : ℤ} {result : Result (Unit {0}) Refusal} → CanCall old h r is → FindsWhere (fills_word h.value) base is h r found
      → Did old new (DoesSetLong old.caller h r (update_place_of fills_word base is h r) n result) → AfterSetLong old new h r base is n result
  after_set_long {n} can f d =
      after_update fills_word (λ place u. Stores r.arena place (word_of h.value.order n)) _ _ _ can.known can.outside can.indices f
      (λ u works stands d alone. store_alone h.value u (whole_word h r _ stands works) d alone) (λ p u acts g. tt) d

  -- All that is learnt of `compare_and_exchange_long`, where the long that is expected fits.
  pub after_exchange_long : {expected n : ℤ} {result : Result ℤ Refusal} → CanCall old h r is → SFits w64 expected
      → FindsWhere (fills_word h.value) base is h r found
      → Did old new (DoesExchangeLong old.caller h r (update_place_of fills_word base is h r) expected n result)
      → AfterExchangeLong old new h r base is expected n result
  after_exchange_long {expected} {n} can fits f d =
      after_update fills_word (λ place. ExchangesLong h.value.order r.arena place expected n) _ _ _ can.known can.outside can.indices f
      (λ x works stands d alone. exchange_long_alone (whole_word h r _ stands works) (word_means h.value.order expected fits) d alone) (λ p x acts g. tt) d

  -- All that is learnt of `get_and_add_long`.
  pub after_add_long : {delta : ℤ} {result : Result ℤ Refusal} → CanCall old h r is → FindsWhere (is_word h.value) base is h r found
      → Did old new (DoesAddLong old.caller h r (update_place_of is_word base is h r) delta result) → AfterAddLong old new h r base is delta result
  after_add_long {delta} can f d =
      after_update is_word (λ place. AddsLong r.arena place delta) _ _ _ can.known can.outside can.indices f
      (λ x works stands d alone. let parts = word_parts h.value works in add_long_alone (whole_word h r _ stands parts.0) parts.1 d alone) (λ p x acts g. tt) d

-- ---- an exchange, seen by whether it won

module _ {old new : View} (h : Resolution) {r : Region} (base : ℕ) (is : List ℕ) (expected x : Value) where
  pub after_compare : {y : Value} {b : Bool} → MatchBool b (y ≡ expected) (y ≢ expected) → AfterExchange old new h r base is expected x (Ok y)
      → AfterCompareAndSet old new h r base is expected x (Ok b)
  after_compare same a =
      after_said _ _ _ _ _ _ _ a (λ own d. won old.caller r.arena (update_place_of can_update base is h r) _ expected _ _ own same d)
      (λ x. x) (λ w e. expected_set _ same e) (λ w e. e) a.known (λ k. tt)

  pub no_compare : {e : Refusal} → AfterExchange old new h r base is expected x (Err e) → AfterCompareAndSet old new h r base is expected x (Err e)
  no_compare a =
      after_said _ _ _ _ _ _ _ a (λ own d. not_made old.caller r.arena (update_place_of can_update base is h r) _ expected _ own d)
      (λ x. x) (λ w e. tt) (λ w e. e) a.known (λ k. tt)
