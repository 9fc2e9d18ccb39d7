-- What the calls of handles do, and that they are tidy: they change only bytes that the segment's arena has given.
use Rattle.std.specs.Prelude.{◌≡◌, ℕ, ℤ, Bool, List, length, Result}
use Rattle.fm_base.specs.{declared.{caller.Caller.{Caller}, refusal.Refusal.{Refusal}}, Calls.{Entry}, Histories.{IsTidy}, View.{View, Makes, IsByItself}}
use Rattle.fm_lanes.specs.{declared.value.Value.{Value}, Value.{kind_of}}
use Rattle.fm_layout.specs.Tree.{Tree}
use Rattle.fm_path.specs.Resolution.{Resolution, IsResolved, StaysInside}
use Rattle.fm_segment.specs.{Access.{IsKnown}, Region.{Region}}
use Rattle.fm_path_text.specs.declared.step.PathStep.{PathStep}
use Rattle.fm_handle.specs.Access.{DoesGet, DoesSet, DoesSetLong, DoesExchange, DoesExchangeLong, DoesCompareAndSet, DoesAdd, DoesAddLong}
use Rattle.fm_handle.specs.Place.{place_of, writable_place_of, update_place_of, can_update, fills_word, is_word}
use Rattle.fm_segment_laws.specs.Accesses.{IsTidyBy}

-- the entries of a call on the handle's value in the segment, the layout standing at the base
pub data DoesCall (c : Caller) (h : Resolution) (r : Region) (base : ℕ) (is : List ℕ) (own : List Entry) : Type 0 where
  gets : (result : Result Value Refusal) → DoesGet c h r (place_of base is h r) result own → DoesCall c h r base is own
  sets : (v : Value) (result : Result (Unit {0}) Refusal) → kind_of v ≡ h.value.kind
      → DoesSet c h r (writable_place_of base is h r) v result own → DoesCall c h r base is own
  sets_long : (v : ℤ) (result : Result (Unit {0}) Refusal)
      → DoesSetLong c h r (update_place_of fills_word base is h r) v result own → DoesCall c h r base is own
  compares_and_sets : (expected v : Value) (result : Result Bool Refusal) → kind_of v ≡ h.value.kind
      → DoesCompareAndSet c h r (update_place_of can_update base is h r) expected v result own → DoesCall c h r base is own
  exchanges : (expected v : Value) (result : Result Value Refusal) → kind_of v ≡ h.value.kind
      → DoesExchange c h r (update_place_of can_update base is h r) expected v result own → DoesCall c h r base is own
  exchanges_long : (expected v : ℤ) (result : Result ℤ Refusal)
      → DoesExchangeLong c h r (update_place_of fills_word base is h r) expected v result own → DoesCall c h r base is own
  adds : (delta : Value) (result : Result Value Refusal) → kind_of delta ≡ h.value.kind
      → DoesAdd c h r (update_place_of can_update base is h r) delta result own → DoesCall c h r base is own
  adds_long : (delta : ℤ) (result : Result ℤ Refusal)
      → DoesAddLong c h r (update_place_of is_word base is h r) delta result own → DoesCall c h r base is own

-- where a segment is known, a call of a handle on it is tidy, whatever it answers: `StaysInside` is what each
-- resolved path keeps, so no layout is at hand
abbrev pub HandlesAreTidy : Type 0
HandlesAreTidy =
    (h : Resolution) → StaysInside h
    → (old new : View) (r : Region) (base : ℕ) (is : List ℕ) (own : List Entry) (makes : Makes old new own)
    → length is ≡ length h.dims → IsKnown old r → DoesCall old.caller h r base is own
    → IsTidyBy old.caller old.limit old.state makes.all

-- where the caller is by itself, its entries are a tidy history
abbrev pub LoneHandlesAreTidy : Type 0
LoneHandlesAreTidy =
    (h : Resolution) → StaysInside h
    → (old new : View) (r : Region) (base : ℕ) (is : List ℕ) (own : List Entry) → Makes old new own → IsByItself old
    → length is ≡ length h.dims → IsKnown old r → DoesCall old.caller h r base is own
    → IsTidy old.limit old.state own

-- a path into a layout is resolved to what stays inside it
abbrev pub PathsStayInside : Tree → Type 0
PathsStayInside t = (path : List PathStep) (h : Resolution) → IsResolved path t h → StaysInside h
