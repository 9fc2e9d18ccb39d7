-- What a caller inside an arena learns of calls by a handle, from what they did.
use Rattle.std.proofs.Common.{◌≡◌, ◌≢◌, ℕ, ◌+◌, ◌/◌, ◌%◌, ◌<◌, ◌≤◌, Bool, true, false, MatchBool, if◌then◌else◌, nat_lt, List, [], ◌∷◌, length, refl, sym, ap, subst, ◌∙◌, arith, Some, Result, Ok, Err}
use Rattle.fm_base.specs.declared.{arena_id.ArenaId.{ArenaId}, refusal.Refusal.{Refusal, TheVariants.{IndexOut, ReadOnly, Unsupported}}}
use Rattle.fm_base.specs.{Calls.{Call, Reply}, Learnt.{AfterAct}, Does.{CanReach}, View.{View, Did, IsByItself, given_in}, Visits.{Acts}}
use Rattle.fm_lanes.specs.{declared.{value.Value.{Value}, value_kind.ValueKind.{ValueKind}}, Coding.{value_of, bytes_of_value}, Kind.{width_of}, Value.{kind_of}}
use Rattle.fm_lanes.proofs.Meaning.{width_of-bounds}
use Rattle.fm_path.specs.{declared.value_spec.ValueSpec.{ValueSpec}, Resolution.{Resolution}}
use Rattle.fm_path_meaning.specs.declared.dim.Dim.{Dim}
use Rattle.fm_segment_access.proofs.Values.{AreBytes-value, length-value, kind_of-decoded}
use Rattle.fm_segment.specs.Region.{Region}
use Rattle.fm_handle.specs.Place.{if_admitted, if_rooted, if_supported, if_writable, place_of, writable_place_of, update_place_of, value_place, ValueStands, can_update}
use Rattle.fm_handle.specs.{Access.{DoesInside, Wins}, Acts.{Exchanges, puts, finds_another}, Alone.{FindsValue, PutsValue}}
use Rattle.fm_handle.proofs.{Alone.{place_is, writable_place_is, update_place_is}, Updating.{expected_set}}
use Rattle.fm_visit.specs.{Acts.{ActsAt, HasActs, IsOfArguments}, Learnt.{AfterInside}, Runs.{GetsAs, PutsFrom}, Values.{PutsHere, Reaches}}
use Rattle.fm_visit.specs.Handles.{CanCall, AfterGetBy, AfterSetBy, AfterExchange, AfterCompareAndSet, Gives, ReadsValue}
use Rattle.fm_visit.proofs.{Getting.{means_alone}, Learning.{after_refused, just_act}, Going.{has}, Places.{placed_err}, Putting.{leaves_puts, puts_alone}, Values.{after_has, unless_err}}

-- ---- refusals come of the arguments

admitted_err : (k : ℕ) (ds : List Dim) (is : List ℕ) (found : Result ℕ Refusal) (e : Refusal) → (found ≡ Err e → IsOfArguments e)
    → if_admitted k ds is found ≡ Err e → IsOfArguments e
admitted_err k [] is found e behind h = behind h
admitted_err k (d ∷ ds) [] found e behind h = behind h
admitted_err k (d ∷ ds) (i ∷ is) found e behind h = by_test (nat_lt i d.bound) (λ x. admitted_err (k + 1) ds is found e behind x) h where
  by_test : (b : Bool) → (if_admitted (k + 1) ds is found ≡ Err e → IsOfArguments e) → (if b then if_admitted (k + 1) ds is found else Err (IndexOut k)) ≡ Err e → IsOfArguments e
  by_test true more h = more h
  by_test false more h = let same : IndexOut k ≡ e = cc in subst IsOfArguments same tt

module _ (base : ℕ) (is : List ℕ) (h : Resolution) (r : Region) (e : Refusal) where
  rooted_err : if_rooted base h r (Ok (value_place base is h r)) ≡ Err e → IsOfArguments e
  rooted_err x = placed_err base h.root_size h.root_alignment r.first r.size (value_place base is h r) e x

  pub place_err : place_of base is h r ≡ Err e → IsOfArguments e
  place_err x = admitted_err 0 h.dims is (if_rooted base h r (Ok (value_place base is h r))) e rooted_err x

  pub writable_err : writable_place_of base is h r ≡ Err e → IsOfArguments e
  writable_err x =
      admitted_err 0 h.dims is (if_writable r (if_rooted base h r (Ok (value_place base is h r)))) e
      (unless_err r.read_only ReadOnly (if_rooted base h r (Ok (value_place base is h r))) e tt rooted_err) x

  pub update_err : (b : Bool) → if_supported b (writable_place_of base is h r) ≡ Err e → IsOfArguments e
  update_err true x = writable_err x
  update_err false x = let same : Unsupported ≡ e = cc in subst IsOfArguments same tt

-- ---- places that can be reached

module _ {x : View} {h : Resolution} {r : Region} {is : List ℕ} (can : CanCall x r.arena h r is) {p : ℕ} (stands : ValueStands h r p) where
  pub value_reaches : Reaches x r.arena p (width_of h.value.kind)
  value_reaches =
      let given : r.first + r.size ≤ given_in x r.arena = can.inside.known.given in
      let inside = stands.inside in
      record { inside = can.inside.inside; given = omega arith; small = stands.small }

  pub value_given : p < given_in x r.arena
  value_given =
      let given : r.first + r.size ≤ given_in x r.arena = can.inside.known.given in
      let inside = stands.inside in
      let some = (width_of-bounds h.value.kind).0 in
      omega arith

  pub value_word : CanReach x (p / 8)
  value_word = let given = value_given in record { id = r.arena; inside = can.inside.inside; given = omega arith }

-- ---- what is learnt

module _ {x : View} {h : Resolution} {r : Region} (base : ℕ) {is : List ℕ} (can : CanCall x r.arena h r is) where
  pub got_by : {y : View} {p : ℕ} {v : Value} → place_of base is h r ≡ Ok p
      → Did x y (HasActs x.caller (GetsAs (value_of h.value.kind h.value.order) r.arena p (width_of h.value.kind) v)) → y.inside ≡ Some r.arena
      → AfterGetBy x y h r base is (Ok v)
  got_by {y} {p} {v} found d inside =
      after_has {Do = ActsAt (place_of base is h r) (ReadsValue r.arena h.value)} can.inside (rw found d) inside
      (λ w. subst (λ (n : ℕ). FindsValue x y h.value r.arena n v) (place_is base is h r can.indices p found) (means_alone d w))

  pub not_got_by : {e : Refusal} → place_of base is h r ≡ Err e → AfterGetBy x x h r base is (Err e)
  not_got_by {e} found = after_refused (ReadsValue r.arena h.value) (Err e) can.inside found refl (place_err base is h r e found)

  pub put_by : {y : View} {p : ℕ} (v : Value) → kind_of v ≡ h.value.kind → writable_place_of base is h r ≡ Ok p
      → Did x y (HasActs x.caller (PutsFrom r.arena p (bytes_of_value h.value.order v))) → y.inside ≡ Some r.arena → AfterSetBy x y h r base is v (Ok tt)
  put_by {y} {p} v kind found d inside =
      after_has {Do = ActsAt (writable_place_of base is h r) (PutsHere r.arena (bytes_of_value h.value.order v))} can.inside (rw found d) inside
      (λ w.
      let are = AreBytes-value h.value.order v in
      let width : length (bytes_of_value h.value.order v) ≡ width_of h.value.kind = length-value h.value.order v ∙ ap width_of kind in
      let least = (width_of-bounds h.value.kind).0 in
      let put = leaves_puts are d w in
      let within = put.within (omega arith) in
      subst (λ (n : ℕ). PutsValue x y h.value r.arena n v) (writable_place_is base is h r can.indices p found)
      (record { bytes = puts_alone are d w can.inside.known.arena; within = omega arith }))

  pub not_put_by : (v : Value) {e : Refusal} → writable_place_of base is h r ≡ Err e → AfterSetBy x x h r base is v (Err e)
  not_put_by v {e} found =
      after_refused (PutsHere r.arena (bytes_of_value h.value.order v)) (Err e) can.inside found refl (writable_err base is h r e found)

  -- Of an update, by its acts at the place found,
  pub updated : {X : Type 0} {y : View} {p : ℕ} {v : X} (works_on : ValueSpec → Bool) (Give : ℕ → X → Acts → Type 0) (Alone : ℕ → X → Type 0)
      → update_place_of works_on base is h r ≡ Ok p → Did x y (HasActs x.caller (Give p v)) → y.inside ≡ Some r.arena → (IsByItself x → Alone p v)
      → AfterInside x y r.arena r (ActsAt (update_place_of works_on base is h r) (Gives Give)) (Alone (value_place base is h r)) (Ok v)
  updated {p = p} {v} works_on Give Alone found d inside alone =
      after_has {Do = ActsAt (update_place_of works_on base is h r) (Gives Give)} can.inside (rw found d) inside
      (λ w. subst (λ (n : ℕ). Alone n v) (update_place_is base is h r can.indices works_on p found) (alone w))

  -- and of one that was refused.
  pub not_updated : {X : Type 0} {e : Refusal} (works_on : ValueSpec → Bool) (Give : ℕ → X → Acts → Type 0) (Alone : ℕ → X → Type 0)
      → update_place_of works_on base is h r ≡ Err e
      → AfterInside x x r.arena r (ActsAt (update_place_of works_on base is h r) (Gives Give)) (Alone (value_place base is h r)) (Err e)
  not_updated {e = e} works_on Give Alone found =
      after_refused (Gives Give) (Err e) can.inside found refl (update_err base is h r e (works_on h.value) found)

-- One act, as the acts of a call.
pub one_act : {x y : View} {id : ArenaId} {Do : Acts → Type 0} (call : ArenaId → Call) (reply : Reply) → x.inside ≡ Some id → AfterAct x y call reply
    → Do ((call id, reply) ∷ []) → Did x y (HasActs x.caller Do)
one_act {id = id} call reply inside a are = has ((call id, reply) ∷ []) are (just_act call reply inside a.did)

-- A value found by an exchange is of the kind.
pub exchange_kind : {p : ℕ} {expected v x : Value} {acts : Acts} (h : Resolution) (id : ArenaId) → kind_of expected ≡ h.value.kind → kind_of v ≡ h.value.kind
    → Exchanges h.value.order id p expected v x acts → kind_of x ≡ h.value.kind
exchange_kind h id expects kind (puts word these value t) = expects
exchange_kind {v = v} h id expects kind (finds_another word other these value differs cut) = ap kind_of value ∙ kind_of-decoded (kind_of v) _ ∙ kind

-- A value that was got is of the kind.
pub kind_got : {x y : View} (h : Resolution) {id : ArenaId} {p : ℕ} {v : Value}
    → Did x y (HasActs x.caller (GetsAs (value_of h.value.kind h.value.order) id p (width_of h.value.kind) v)) → kind_of v ≡ h.value.kind
kind_got h d = ap kind_of d.does.are.value ∙ kind_of-decoded h.value.kind _

-- The same acts, as `fm_handle` tells them.
pub acted_inside : {x y : View} {Do : Acts → Type 0} → Did x y (DoesInside x.caller Do) → Did x y (HasActs x.caller Do)
acted_inside d = has d.does.acts d.does.are (record { own = d.own; does = d.does.entries; makes = d.makes })

-- A value of the kind lies in the word that the handle's does.
pub fits_word : (p : ℕ) (v : Value) (h : Resolution) → kind_of v ≡ h.value.kind → p % 8 + width_of h.value.kind ≤ 8 → p % 8 + width_of (kind_of v) ≤ 8
fits_word p v h kind fits = subst (λ (k : ValueKind). p % 8 + width_of k ≤ 8) (sym kind) fits

-- ---- an exchange, seen by whether it won

wins : (expected found : Value) (Exchange : Value → Acts → Type 0) (b : Bool) (acts : Acts) → MatchBool b (found ≡ expected) (found ≢ expected)
    → Exchange found acts → Wins Exchange expected b acts
wins expected found Exchange true acts is e = subst (λ (w : Value). Exchange w acts) is e
wins expected found Exchange false acts is e = (found, is, e)

module _ (h : Resolution) (r : Region) (expected v : Value) where
  won : (found : Result ℕ Refusal) (w : Value) (b : Bool) (acts : Acts) → MatchBool b (w ≡ expected) (w ≢ expected)
      → ActsAt found (Gives (λ place. Exchanges h.value.order r.arena place expected v)) (Ok w) acts
      → ActsAt found (Gives (λ place. Wins (Exchanges h.value.order r.arena place expected v) expected)) (Ok b) acts
  won (Err e) w b acts same d = absurd (let q : Ok w ≡ Err e = d.0 in let no : ⊥ = cc in no)
  won (Ok place) w b acts same d = wins expected w (Exchanges h.value.order r.arena place expected v) b acts same d

  lost : (found : Result ℕ Refusal) (e : Refusal) (acts : Acts) → ActsAt found (Gives (λ place. Exchanges h.value.order r.arena place expected v)) (Err e) acts
      → ActsAt found (Gives (λ place. Wins (Exchanges h.value.order r.arena place expected v) expected)) (Err e) acts
  lost (Err k) e acts d = (let same = d.0 in cc, d.1)
  lost (Ok place) e acts d = d

module _ {x y : View} (h : Resolution) {r : Region} (base : ℕ) (is : List ℕ) (expected v : Value) where
  pub compared_set : {w : Value} {b : Bool} → MatchBool b (w ≡ expected) (w ≢ expected) → AfterExchange x y h r base is expected v (Ok w)
      → AfterCompareAndSet x y h r base is expected v (Ok b)
  compared_set {w} {b} same a = record {
    did = record {
      own = a.did.own;
      does = record {
        acts = a.did.does.acts;
        are = won h r expected v (update_place_of can_update base is h r) w b a.did.does.acts same a.did.does.are;
        entries = a.did.does.entries;
      };
      makes = a.did.makes;
    };
    refused = tt;
    alone = λ q. expected_set b same (a.alone q);
    still = a.still;
    inside = a.inside;
    lasts = a.lasts;
  }

  pub not_compared : {e : Refusal} → AfterExchange x y h r base is expected v (Err e) → AfterCompareAndSet x y h r base is expected v (Err e)
  not_compared {e} a = record {
    did = record {
      own = a.did.own;
      does = record {
        acts = a.did.does.acts;
        are = lost h r expected v (update_place_of can_update base is h r) e a.did.does.acts a.did.does.are;
        entries = a.did.does.entries;
      };
      makes = a.did.makes;
    };
    refused = a.refused;
    alone = λ q. tt;
    still = a.still;
    inside = a.inside;
    lasts = a.lasts;
  }
