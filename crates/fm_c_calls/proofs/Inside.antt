-- The numbers of a resolved path's place lead into the record.
use Rattle.std.proofs.Common.{◌≡◌, ℕ, ◌+◌, ◌≤◌, List, [], ◌∷◌, refl, sym, ap, subst}
use Rattle.fm_lanes.specs.{Kind.{width_of}, declared.value_kind.ValueKind.{ValueKind}}
use Rattle.fm_lanes.specs.declared.value_kind.ValueKind.TheVariants as kind
use Rattle.fm_path_meaning.specs.{declared.dim.Dim.{Dim}, Steady.{IsSteady}, Walk.{offset_at}}
use Rattle.fm_c_calls.specs.{Located.{PlacesLeadInside, code_width, dims_of}, Placed.{kind_code, strides_of}}

pub dims_back : (ds : List Dim) → dims_of (strides_of ds) ≡ ds
dims_back [] = refl
dims_back (d ∷ ds) = ap (λ (xs : List Dim). d ∷ xs) (dims_back ds)

width_back : (k : ValueKind) → code_width (kind_code k) ≡ width_of k
width_back kind.Byte = refl
width_back kind.Boolean = refl
width_back kind.Char = refl
width_back kind.Short = refl
width_back kind.Int = refl
width_back kind.Long = refl

pub lead_inside : PlacesLeadInside
lead_inside r is stays admitted = record {
  steady = subst (λ (ds : List Dim). IsSteady r.offset ds is) (sym (dims_back r.dims)) (stays.steady is admitted);
  inside = subst (λ (ds : List Dim). offset_at r.offset ds is + code_width (kind_code r.value.kind) ≤ r.root_size) (sym (dims_back r.dims))
      (subst (λ (n : ℕ). offset_at r.offset r.dims is + n ≤ r.root_size) (sym (width_back r.value.kind)) (stays.inside is admitted));
}
