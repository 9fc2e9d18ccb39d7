-- What accesses do, from what the accesses to bytes did.
use Rattle.std.proofs.Common.{nat_le, min, inl, inr, Bool, true, false, if◌then◌else◌, ◌≡◌, ℕ, ◌+◌, ◌<◌, ◌*◌, Result, Ok, Err, List, refl, sym, ap, ◌∙◌, arith}
use Rattle.std.proofs.lemmas.Bool.{cases_lt, lt-leb}
use Rattle.fm_base.specs.{declared.{arena_id.ArenaId.{ArenaId}, refusal.Refusal.{Refusal, TheVariants.{Bounds, ReadOnly, Unsupported}}}, Calls.{Entry}}
use Rattle.fm_base.specs.{Outcomes.{Lasts}, View.{View, Did}}
use Rattle.fm_lanes.specs.declared.{order.Order.{Order}, value_kind.ValueKind.{ValueKind}}
use Rattle.fm_layout.specs.declared.form.Form.TheVariants as form
use Rattle.fm_layout.specs.Tree as tree
use Rattle.fm_layout.specs.{Tree.{Tree, Label, alignment_of}, Size.{size_of}, Parts.{form_of, IsValue}}
use Rattle.fm_segment_access.specs.Found.{DoesAt}
use Rattle.fm_segment.specs.{Access.{if_tiling, HasKind, IsKnown, place_of, writable_place_of, offset_of_index, StandsAtIndex}, Region.{Region}}

-- ---- by the layout

-- A value layout of a kind is a value layout.
pub is_value : (t : Tree) (k : ValueKind) → HasKind t k → IsValue t
is_value (tree.Value k1 o l) k h = tt
is_value t k h = absurd h

pub value_is : (t : Tree) {k : ValueKind} {o : Order} → IsValue t → form_of t ≡ form.Value k o → (l : Label) × (t ≡ tree.Value k o l)
value_is (tree.Value k1 o1 l) i e = (l, cc)
value_is t i e = absurd i

-- ---- at the place that was found

-- What was done with a value of this kind and order was done by the layout.
pub at_value : {X : Type 0} {old new : View} {result : Result X Refusal} (Here : ArenaId → Tree → ℕ → Result X Refusal → List Entry → Type 0)
    {mine id : ArenaId} (t : Tree) {k : ValueKind} {o : Order} {found : Result ℕ Refusal} {place : ℕ} → mine ≡ id → IsValue t → form_of t ≡ form.Value k o
    → found ≡ Ok place → ((l : Label) → Did old new (Here mine (tree.Value k o l) place result)) → Did old new (DoesAt found (Here id t) result)
at_value Here t same i f e d = let v = value_is t i f in rw (e, v.1, ← same) (d v.0)

-- What was done at one place was done at the same.
pub at_found : {X : Type 0} {old new : View} {p q : Result ℕ Refusal} (Here : ℕ → Result X Refusal → List Entry → Type 0) (result : Result X Refusal) → p ≡ q
    → Did old new (DoesAt p Here result) → Did old new (DoesAt q Here result)
at_found Here result e d = rw (← e) d

-- ---- what stays known

pub known_still : (old new : View) (r : Region) → Lasts old new → IsKnown old r → IsKnown new r
known_still old new r l k = record { arena = l.known r.arena k.arena; given = (let g = l.given r.arena in let h = k.given in omega arith) }

-- ---- by index

-- A layout past the end.
past_end : (n : ℕ) (t : Tree) (r : Region) → r.size < n → place_of n t r ≡ Err Bounds
past_end n t r h = rw (lt-leb (n + size_of t) r.size (omega arith)) refl

-- One past the end is as far past as need be.
capped : (n : ℕ) (t : Tree) (r : Region) → place_of (min n (r.size + 1)) t r ≡ place_of n t r
capped n t r = elim (cases_lt r.size n) [
  | inl past ↦ past_end (min n (r.size + 1)) t r (omega arith) ∙ sym (past_end n t r past)
  | inr below ↦ (let same : min n (r.size + 1) ≡ n = omega arith in ap (λ k. place_of k t r) same)
]

writable_capped : (n : ℕ) (t : Tree) (r : Region) → writable_place_of (min n (r.size + 1)) t r ≡ writable_place_of n t r
writable_capped n t r = ap (λ (x : Result ℕ Refusal). if r.read_only then Err ReadOnly else x) (capped n t r)

-- Tests that come first.
tested_err : (b : Bool) (n : ℕ) (x : Result ℕ Refusal) (first e : Refusal) → (if b then Ok n else Err first) ≡ Err e → (if b then x else Err first) ≡ Err e
tested_err true n x first e h = cc
tested_err false n x first e h = h

tested_ok : (b : Bool) (n m : ℕ) (x : ℕ → Result ℕ Refusal) (first : Refusal) → (if b then Ok n else Err first) ≡ Ok m → (if b then x n else Err first) ≡ x m
tested_ok true n m x first h = cc
tested_ok false n m x first h = cc

module _ (i : ℕ) (t : Tree) (r : Region) (At : ℕ → Result ℕ Refusal) where
  index_err : {e : Refusal} → offset_of_index i t r ≡ Err e → if_tiling t (At (i * size_of t)) ≡ Err e
  index_err {e} h = tested_err (nat_le (alignment_of t) (size_of t)) (min (i * size_of t) (r.size + 1)) (At (i * size_of t)) Unsupported e h

  index_ok : ((n : ℕ) → At (min n (r.size + 1)) ≡ At n) → {n : ℕ} → offset_of_index i t r ≡ Ok n → At n ≡ if_tiling t (At (i * size_of t))
  index_ok cap {n} h =
      sym (tested_ok (nat_le (alignment_of t) (size_of t)) (min (i * size_of t) (r.size + 1)) n At Unsupported h) ∙ ap (if_tiling t) (cap (i * size_of t))

-- Where the element of an index stands.
pub stands_at_index : (i : ℕ) (t : Tree) (r : Region) (found : Result ℕ Refusal) → found ≡ offset_of_index i t r → StandsAtIndex i t r found
stands_at_index i t r (Ok n) e =
    (index_ok i t r (λ k. place_of k t r) (λ k. capped k t r) (sym e), index_ok i t r (λ k. writable_place_of k t r) (λ k. writable_capped k t r) (sym e))
stands_at_index i t r (Err x) e = (index_err i t r (λ k. place_of k t r) (sym e), index_err i t r (λ k. writable_place_of k t r) (sym e))
