-- Where a value stands in a segment, and what its only caller sees there.
use Rattle.std.proofs.Common.{◌≡◌, ℕ, ◌+◌, ◌-◌, ◌*◌, ◌^◌, ◌<◌, ◌≤◌, List, take, drop, Result, Ok, sym, ap, subst, ◌∙◌, arith}
use Rattle.std.proofs.lemmas.List.{drop-drop, drop-take, take-take}
use Rattle.fm_base.specs.{declared.refusal.Refusal.{Refusal}, View.{View}}
use Rattle.fm_lanes.specs.declared.{order.Order.{Order}, value.Value.{Value}, value_kind.ValueKind.{ValueKind}}
use Rattle.fm_lanes.specs.{Coding.{encoded, decoded, value_of, bytes_of_value}, Kind.{width_of}, Value.{kind_of}}
use Rattle.fm_layout.specs.Tree as tree
use Rattle.fm_layout.specs.{Tree.{Tree, Label, alignment_of}, Size.{size_of}}
use Rattle.fm_segment_access.{specs.Alone.{bytes_of_arena, ChangesBytes}, proofs.{Causes.{placed_ok}, Values.{puts_then_gets}}}
use Rattle.fm_segment_access.specs.Values as here
use Rattle.fm_segment.specs.{Access.{HasKind, place_of, writable_place_of, if_tiling, Fits}, Alone.{bytes_of_region, FindsValue, PutsValue, SetsThenGets}}
use Rattle.fm_segment.{specs.Region.{Region}, proofs.Causes.{write_ok, when_tiling}}

-- ---- where a value stands

-- the place is the offset's, where the layout fits
pub record Stands (p offset : ℕ) (t : Tree) (r : Region) : Type 0 where
  pub at : p ≡ r.first + offset
  pub fits : Fits offset t r

abbrev pub StandsIf : Result ℕ Refusal → ℕ → Tree → Region → Type 0
StandsIf found offset t r = (p : ℕ) → found ≡ Ok p → Stands p offset t r

module _ (offset : ℕ) (t : Tree) (r : Region) where
  -- A place that is found is the offset's.
  pub place_stands : StandsIf (place_of offset t r) offset t r
  place_stands p h =
      let f = placed_ok offset (size_of t) (alignment_of t) r.first r.size (Ok (r.first + offset)) p h in
      let e = f.2 in record { at = cc; fits = f.0 }

  pub writable_stands : StandsIf (writable_place_of offset t r) offset t r
  writable_stands p h = place_stands p (write_ok offset t r p h).1

-- By index.
pub tiled_stands : (found : Result ℕ Refusal) (offset : ℕ) (t : Tree) (r : Region) → StandsIf found offset t r → StandsIf (if_tiling t found) offset t r
tiled_stands found offset t r s p h = s p (when_tiling t found p h).1

-- ---- bytes of a part

-- Bytes of a part, by the whole's.
pub take-part : (width at size place : ℕ) (all : List ℕ) → at + width ≤ size
    → take width (drop at (take size (drop place all))) ≡ take width (drop (place + at) all)
take-part width at size place all within =
    let rest = size - at in
    let whole : size ≡ at + rest = omega arith in
    ap (λ n. take width (drop at (take n (drop place all)))) whole
    ∙ ap (take width) (drop-take at rest (drop place all))
    ∙ take-take width rest (drop at (drop place all)) (omega arith)
    ∙ ap (take width) (drop-drop at place all)

-- ---- getting and setting

module _ (old new : View) (r : Region) (k : ValueKind) (o : Order) (l : Label) (offset p : ℕ) (v : Value) (at : Stands p offset (tree.Value k o l) r) where
  -- A value at the place is the region's, at the offset.
  pub finds_there : here.FindsValue old new k o r.arena p v → FindsValue old new r (tree.Value k o l) offset v
  finds_there f =
      let all = bytes_of_arena old.state r.arena in
      let there : take (width_of k) (drop p (bytes_of_arena old.state r.arena)) ≡ take (width_of k) (drop offset (bytes_of_region old.state r)) =
      ap (λ n. take (width_of k) (drop n all)) at.at ∙ sym (take-part (width_of k) offset r.size r.first all at.fits) in
      record { value = f.value ∙ ap (value_of k o) there; same = f.same }

  -- A value that was put at the place is put at the offset.
  pub puts_there : here.PutsValue old new k o r.arena p v → PutsValue old new r (tree.Value k o l) offset v
  puts_there f =
      let P : ℕ → Type 0 = λ n. ChangesBytes old new r.arena n (bytes_of_value o v) in
      record { bytes = subst P at.at f.bytes; within = (let w = f.within in let e = at.at in omega arith) }

-- What was set is got.
pub sets_then_gets : (r : Region) (t : Tree) (offset : ℕ) (v : Value) → HasKind t (kind_of v)
    → encoded v < 2 ^ (8 * width_of (kind_of v)) → decoded (kind_of v) (encoded v) ≡ v → SetsThenGets r t offset v
sets_then_gets r (tree.Value k o l) offset v kind small back old between new got fits put found =
    let all = bytes_of_arena between.state r.arena in
    let read : take (width_of k) (drop offset (bytes_of_region between.state r))
    ≡ take (width_of k) (drop (r.first + offset) (bytes_of_arena between.state r.arena)) =
    take-part (width_of k) offset r.size r.first all fits in
    puts_then_gets k o r.arena (r.first + offset) v kind small back old between new got
    (record { bytes = put.bytes; within = put.within }) (record { value = found.value ∙ ap (value_of k o) read; same = found.same })
sets_then_gets r t offset v kind small back old between new got fits put found = absurd kind
