-- What a caller learns of accesses to a segment, from what they did.
use Rattle.std.proofs.Common.{◌≡◌, ℕ, ℤ, ◌*◌, Option, Result, Ok, Err, ap, ◌∙◌, arith}
use Rattle.fm_base.specs.{declared.refusal.Refusal.{Refusal}, Outcomes.{Lasts}, View.{View, Did}}
use Rattle.fm_lanes.specs.declared.value.Value.{Value}
use Rattle.fm_layout.specs.Tree as tree
use Rattle.fm_layout.specs.{Tree.{Tree}, Size.{size_of}}
use Rattle.fm_segment_access.proofs.{Causes.{Causes}, Learning.{after_get_at, after_put_at, after_said}}
use Rattle.fm_segment_copies.specs.{Alone.{bytes_at, first_difference}, Learnt.{AfterCompare}, Sides.{side}}
use Rattle.fm_segment.specs.{Access.{DoesGetAt, DoesSetAt, place_of, writable_place_of, place_at_index, writable_place_at_index}, Alone.{common_bytes}}
use Rattle.fm_segment.specs.Comparisons.{common_size, mismatch_of}
use Rattle.fm_segment.specs.Learnt.{CanGet, CanSet, CanUseBoth, KnowsSegments, AfterMismatch, AfterGetAt, AfterSetAt, AfterGet, AfterSet, AfterGetIndex, AfterSetIndex}
use Rattle.fm_segment.{specs.Region.{Region}, proofs.Access.{known_still}}
use Rattle.fm_segment.proofs.Alone.{StandsIf, place_stands, writable_stands, tiled_stands, finds_there, puts_there}
use Rattle.fm_segment.proofs.Causes.{get_causes, set_causes, index_causes}

got_at_found : {old new : View} {r : Region} (t : Tree) (offset : ℕ) (found : Result ℕ Refusal) (Cause : Refusal → Type 0) (result : Result Value Refusal)
    → CanGet old r t → Causes found r.arena old.caller Cause → StandsIf found offset t r → Did old new (DoesGetAt old.caller r.arena t found result)
    → AfterGetAt old new r t offset found Cause result
got_at_found {old} {new} {r} (tree.Value k o l) offset found Cause result can causes stands d =
    after_get_at old new k o r.arena found Cause _ _ result can.outside causes (λ w. known_still old new r w can.known)
    (λ p v e f. finds_there old new r k o l offset p v (stands p e) f) d
got_at_found t offset found Cause result can causes stands d = absurd can.value

put_at_found : {old new : View} {r : Region} (t : Tree) (offset : ℕ) (found : Result ℕ Refusal) (Cause : Refusal → Type 0) (x : Value)
    (result : Result (Unit {0}) Refusal) → CanSet old r t x → Causes found r.arena old.caller Cause → StandsIf found offset t r
    → Did old new (DoesSetAt old.caller r.arena t found x result) → AfterSetAt old new r t offset found Cause x result
put_at_found {old} {new} {r} (tree.Value k o l) offset found Cause x result can causes stands d =
    after_put_at old new k o r.arena x found Cause _ _ result can.outside causes (λ w. known_still old new r w can.known) can.value can.known.arena
    (λ p e f. puts_there old new r k o l offset p x (stands p e) f) d
put_at_found t offset found Cause x result can causes stands d = absurd can.value

module _ {old new : View} {r : Region} {t : Tree} where
  -- All that is learnt of `get`.
  pub after_get : (offset : ℕ) {result : Result Value Refusal} → CanGet old r t
      → Did old new (DoesGetAt old.caller r.arena t (place_of offset t r) result) → AfterGet old new r t offset result
  after_get offset can d = got_at_found t offset _ _ _ can (get_causes offset t r old.caller) (place_stands offset t r) d

  -- All that is learnt of `set`.
  pub after_set : (offset : ℕ) {x : Value} {result : Result (Unit {0}) Refusal} → CanSet old r t x
      → Did old new (DoesSetAt old.caller r.arena t (writable_place_of offset t r) x result) → AfterSet old new r t offset x result
  after_set offset can d = put_at_found t offset _ _ _ _ can (set_causes offset t r old.caller) (writable_stands offset t r) d

  -- All that is learnt of `get_at_index`.
  pub after_get_index : (index : ℕ) {result : Result Value Refusal} → CanGet old r t
      → Did old new (DoesGetAt old.caller r.arena t (place_at_index index t r) result) → AfterGetIndex old new r t index result
  after_get_index index can d =
      let offset = index * size_of t in
      got_at_found t offset _ _ _ can
      (index_causes t (place_of offset t r) r.arena old.caller _ (λ none. none) (get_causes offset t r old.caller))
      (tiled_stands (place_of offset t r) offset t r (place_stands offset t r)) d

  -- All that is learnt of `set_at_index`.
  pub after_set_index : (index : ℕ) {x : Value} {result : Result (Unit {0}) Refusal} → CanSet old r t x
      → Did old new (DoesSetAt old.caller r.arena t (writable_place_at_index index t r) x result) → AfterSetIndex old new r t index x result
  after_set_index index can d =
      let offset = index * size_of t in
      put_at_found t offset _ _ _ _ can
      (index_causes t (writable_place_of offset t r) r.arena old.caller _ (λ none. none.1) (set_causes offset t r old.caller))
      (tiled_stands (writable_place_of offset t r) offset t r (writable_stands offset t r)) d

module _ {old new : View} {a b : Region} (can : CanUseBoth old a b) where
  -- Both segments are known still.
  pub both_known : Lasts old new → KnowsSegments a b new
  both_known w = record { first = known_still old new a w can.first_known; second = known_still old new b w can.second_known }

  -- All that is learnt of `mismatch`, from what is learnt of the two ranges: of a refusal
  pub after_no_mismatch : {e : Refusal} → AfterCompare old new (side a.arena a.first) (side b.arena b.first) (common_size a b) (Err e)
      → AfterMismatch old new a b (Err e)
  after_no_mismatch l = after_said _ _ _ _ _ _ _ l (λ own d. d) (λ x. x) (λ h x. tt) (λ h x. x) (both_known l.lasts) (λ x. tt)

  -- and of an answer.
  pub after_mismatch : {found : Option ℕ} {z : ℤ} → z ≡ mismatch_of a.size b.size found
      → AfterCompare old new (side a.arena a.first) (side b.arena b.first) (common_size a b) (Ok found) → AfterMismatch old new a b (Ok z)
  after_mismatch {found} {z} is l =
      let same : common_size a b ≡ common_size b a = omega arith in
      after_said _ _ _ _ _ _ _ l (λ own d. (found, d, is)) (λ x. x)
      (λ h x. record {
        first = is ∙ ap (mismatch_of a.size b.size) (x.first
            ∙ ap (λ n. first_difference (common_bytes old.state a b) (bytes_at old.state (side b.arena b.first) n)) same);
        same = x.same;
      })
      (λ h x. x) (both_known l.lasts) (λ x. tt)
