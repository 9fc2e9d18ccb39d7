-- What the calls of a handle ask for, and what their caller learns: one record each.
use Rattle.std.specs.Prelude.{◌≡◌, ℕ, ℤ, Bool, List, length, None, Result, ⊤}
use Rattle.fm_base.specs.{declared.refusal.Refusal.{Refusal}, Calls.{Entry}, View.{View}}
use Rattle.fm_lanes.specs.{declared.value.Value.{Value, TheVariants.{Long}}, Value.{kind_of}}
use Rattle.fm_path.specs.{declared.value_spec.ValueSpec.{ValueSpec}, Resolution.{Resolution}}
use Rattle.fm_segment_access.specs.{Found.{StaysOutOf}, Learnt.{After}}
use Rattle.fm_segment.specs.{Access.{IsKnown}, Learnt.{KnowsSegment}, Region.{Region}}
use Rattle.fm_handle.specs.Access.{DoesGet, DoesSet, DoesSetLong, DoesExchangeLong, DoesAddLong, DoesExchange, DoesCompareAndSet, DoesAdd}
use Rattle.fm_handle.specs.{Alone.{FindsValue, PutsValue, ExchangesValue, SetsExpected, AddsValue}, Causes.{GetCause, SetCause, UpdateCause}}
use Rattle.fm_handle.specs.Place.{place_of, writable_place_of, update_place_of, value_place, can_update, fills_word, is_word}

-- ---- what is asked for

-- in no arena; the memory knows the segment; an index for each open step
pub record CanCall (v : View) (h : Resolution) (r : Region) (is : List ℕ) : Type 0 where
  pub known : IsKnown v r
  pub outside : v.inside ≡ None
  pub indices : length is ≡ length h.dims

-- the same, and a value of the handle's kind
pub record CanPut (v : View) (h : Resolution) (r : Region) (is : List ℕ) (x : Value) : Type 0 where
  pub known : IsKnown v r
  pub outside : v.inside ≡ None
  pub indices : length is ≡ length h.dims
  pub value : kind_of x ≡ h.value.kind

-- the same, and the value expected of that kind too
pub record CanExchange (v : View) (h : Resolution) (r : Region) (is : List ℕ) (wanted x : Value) : Type 0 where
  pub known : IsKnown v r
  pub outside : v.inside ≡ None
  pub indices : length is ≡ length h.dims
  pub expected : kind_of wanted ≡ h.value.kind
  pub value : kind_of x ≡ h.value.kind

-- ---- what is learnt

module _ (old new : View) (h : Resolution) (r : Region) (base : ℕ) (is : List ℕ) where
  -- of `get`
  abbrev pub AfterGet : Result Value Refusal → Type 0
  AfterGet =
      After old new (DoesGet old.caller h r (place_of base is h r)) (GetCause base is h r old.caller)
      (FindsValue old new h.value r.arena (value_place base is h r))
      (StaysOutOf old new r.arena (place_of base is h r)) (KnowsSegment r) (λ v. kind_of v ≡ h.value.kind)

  -- of `set`
  abbrev pub AfterSet : Value → Result (Unit {0}) Refusal → Type 0
  AfterSet x =
      After old new (DoesSet old.caller h r (writable_place_of base is h r) x) (SetCause base is h r old.caller)
      (λ u. PutsValue old new h.value r.arena (value_place base is h r) x)
      (StaysOutOf old new r.arena (writable_place_of base is h r)) (KnowsSegment r) (λ u. ⊤)

  -- of a call that works on such values alone
  abbrev pub AfterUpdate : {X : Type 0} → (ValueSpec → Bool) → (Result ℕ Refusal → Result X Refusal → List Entry → Type 0) → (X → Type 0) → (X → Type 0)
      → Result X Refusal → Type 0
  AfterUpdate works_on Does Alone Kind =
      After old new (Does (update_place_of works_on base is h r)) (UpdateCause works_on base is h r old.caller) Alone
      (StaysOutOf old new r.arena (update_place_of works_on base is h r)) (KnowsSegment r) Kind

  -- of `compare_and_set`
  abbrev pub AfterCompareAndSet : Value → Value → Result Bool Refusal → Type 0
  AfterCompareAndSet expected x =
      AfterUpdate can_update (λ found. DoesCompareAndSet old.caller h r found expected x)
      (SetsExpected old new h.value r.arena (value_place base is h r) expected x) (λ b. ⊤)

  -- of `compare_and_exchange`
  abbrev pub AfterExchange : Value → Value → Result Value Refusal → Type 0
  AfterExchange expected x =
      AfterUpdate can_update (λ found. DoesExchange old.caller h r found expected x)
      (ExchangesValue old new h.value r.arena (value_place base is h r) expected x) (λ v. kind_of v ≡ h.value.kind)

  -- of `get_and_add`
  abbrev pub AfterAdd : Value → Result Value Refusal → Type 0
  AfterAdd delta =
      AfterUpdate can_update (λ found. DoesAdd old.caller h r found delta)
      (AddsValue old new h.value r.arena (value_place base is h r) delta) (λ v. kind_of v ≡ h.value.kind)

  -- of `set_long`
  abbrev pub AfterSetLong : ℤ → Result (Unit {0}) Refusal → Type 0
  AfterSetLong n =
      AfterUpdate fills_word (λ found. DoesSetLong old.caller h r found n)
      (λ u. PutsValue old new h.value r.arena (value_place base is h r) (Long n)) (λ u. ⊤)

  -- of `compare_and_exchange_long`
  abbrev pub AfterExchangeLong : ℤ → ℤ → Result ℤ Refusal → Type 0
  AfterExchangeLong expected n =
      AfterUpdate fills_word (λ found. DoesExchangeLong old.caller h r found expected n)
      (λ x. ExchangesValue old new h.value r.arena (value_place base is h r) (Long expected) (Long n) (Long x)) (λ x. ⊤)

  -- of `get_and_add_long`
  abbrev pub AfterAddLong : ℤ → Result ℤ Refusal → Type 0
  AfterAddLong delta =
      AfterUpdate is_word (λ found. DoesAddLong old.caller h r found delta)
      (λ x. AddsValue old new h.value r.arena (value_place base is h r) (Long delta) (Long x)) (λ x. ⊤)
