-- What the accesses of a segment ask for, and what their caller learns: one record each.
use Rattle.std.specs.Prelude.{◌≡◌, ℕ, ℤ, ◌+◌, ◌*◌, List, length, None, Result, ⊤}
use Rattle.fm_base.specs.{declared.refusal.Refusal.{Refusal}, View.{View}}
use Rattle.fm_lanes.specs.{declared.value.Value.{Value}, Value.{kind_of}}
use Rattle.fm_layout.specs.{Parts.{IsValue}, Size.{size_of}, Tree.{Tree}}
use Rattle.fm_segment_access.specs.{Alone.{ChangesBytes, StaysOut}, Found.{StaysOutOf}, Learnt.{After}}
use Rattle.fm_segment_copies.specs.Alone as copies
use Rattle.fm_segment.specs.Access.{DoesGetAt, DoesSetAt, GetCause, SetCause, IndexCause, HasKind, IsKnown, place_of, writable_place_of, place_at_index, writable_place_at_index}
use Rattle.fm_segment.specs.{Alone.{FindsValue, PutsValue, FillsBytes, CopiesBytes, FindsMismatch, StaysOutAfter}, Comparisons.{DoesMismatch, MismatchCause}}
use Rattle.fm_segment.specs.{Copies.{DoesCopySegment, CopyCause, checked_copy}, Fills.{DoesFillSegment, FillCause, checked_write}}
use Rattle.fm_segment.specs.{Puts.{DoesPutSegment, PutCause, checked_put}, Region.{Region}}

-- ---- what is asked for

-- in no arena; the memory knows the segment
pub record CanUse (v : View) (r : Region) : Type 0 where
  pub known : IsKnown v r
  pub outside : v.inside ≡ None

-- the same of two segments
pub record CanUseBoth (v : View) (a b : Region) : Type 0 where
  pub first_known : IsKnown v a
  pub second_known : IsKnown v b
  pub outside : v.inside ≡ None

-- in no arena; the memory knows the segment; a value layout
pub record CanGet (v : View) (r : Region) (t : Tree) : Type 0 where
  pub known : IsKnown v r
  pub outside : v.inside ≡ None
  pub value : IsValue t

-- the same, and the layout is of the value's kind
pub record CanSet (v : View) (r : Region) (t : Tree) (x : Value) : Type 0 where
  pub known : IsKnown v r
  pub outside : v.inside ≡ None
  pub value : HasKind t (kind_of x)

-- ---- what is learnt

abbrev pub KnowsSegment : Region → View → Type 0
KnowsSegment r v = IsKnown v r

pub record KnowsSegments (a b : Region) (v : View) : Type 0 where
  pub first : IsKnown v a
  pub second : IsKnown v b

module _ (old new : View) (r : Region) (t : Tree) where
  -- of getting the value at an offset, at the place that was found
  abbrev pub AfterGetAt : ℕ → Result ℕ Refusal → (Refusal → Type 0) → Result Value Refusal → Type 0
  AfterGetAt offset found Cause =
      After old new (DoesGetAt old.caller r.arena t found) Cause (FindsValue old new r t offset)
      (StaysOutOf old new r.arena found) (KnowsSegment r) (λ v. HasKind t (kind_of v))

  -- of setting it
  abbrev pub AfterSetAt : ℕ → Result ℕ Refusal → (Refusal → Type 0) → Value → Result (Unit {0}) Refusal → Type 0
  AfterSetAt offset found Cause x =
      After old new (DoesSetAt old.caller r.arena t found x) Cause (λ u. PutsValue old new r t offset x)
      (StaysOutOf old new r.arena found) (KnowsSegment r) (λ u. ⊤)

  -- of `get`
  abbrev pub AfterGet : ℕ → Result Value Refusal → Type 0
  AfterGet offset = AfterGetAt offset (place_of offset t r) (GetCause offset t r old.caller)

  -- of `set`
  abbrev pub AfterSet : ℕ → Value → Result (Unit {0}) Refusal → Type 0
  AfterSet offset = AfterSetAt offset (writable_place_of offset t r) (SetCause offset t r old.caller)

  -- of `get_at_index`
  abbrev pub AfterGetIndex : ℕ → Result Value Refusal → Type 0
  AfterGetIndex index =
      AfterGetAt (index * size_of t) (place_at_index index t r) (IndexCause t (GetCause (index * size_of t) t r old.caller))

  -- of `set_at_index`
  abbrev pub AfterSetIndex : ℕ → Value → Result (Unit {0}) Refusal → Type 0
  AfterSetIndex index =
      AfterSetAt (index * size_of t) (writable_place_at_index index t r) (IndexCause t (SetCause (index * size_of t) t r old.caller))

-- of `fill`
abbrev pub AfterFill : View → View → Region → ℕ → Result (Unit {0}) Refusal → Type 0
AfterFill old new r byte =
    After old new (DoesFillSegment old.caller r byte) (FillCause r old.caller) (λ u. FillsBytes old new r byte)
    (StaysOutAfter old new (checked_write r.size r) (StaysOut old new r.arena)) (KnowsSegment r) (λ u. ⊤)

-- of `put_bytes`
abbrev pub AfterPutBytes : View → View → Region → ℕ → List ℕ → Result (Unit {0}) Refusal → Type 0
AfterPutBytes old new r offset bytes =
    After old new (DoesPutSegment old.caller r offset bytes) (PutCause r offset (length bytes) old.caller)
    (λ u. ChangesBytes old new r.arena (r.first + offset) bytes)
    (StaysOutAfter old new (checked_put r offset (length bytes)) (StaysOut old new r.arena)) (KnowsSegment r) (λ u. ⊤)

-- of `copy` and `copy_from`
abbrev pub AfterCopy : View → View → Region → ℕ → Region → ℕ → ℕ → Result (Unit {0}) Refusal → Type 0
AfterCopy old new src src_at dst dst_at n =
    After old new (DoesCopySegment src src_at dst dst_at n old.caller) (CopyCause src src_at dst dst_at n old.caller)
    (λ u. CopiesBytes old new src src_at dst dst_at n)
    (StaysOutAfter old new (checked_copy src src_at dst dst_at n) (copies.StaysOutOf old new src.arena dst.arena))
    (KnowsSegments src dst) (λ u. ⊤)

-- of `mismatch`
abbrev pub AfterMismatch : View → View → Region → Region → Result ℤ Refusal → Type 0
AfterMismatch old new a b =
    After old new (DoesMismatch old.caller a b) (MismatchCause a b old.caller) (FindsMismatch old new a b)
    (copies.StaysOutOf old new a.arena b.arena) (KnowsSegments a b) (λ z. ⊤)
