-- Where a value stands, by what the code has of its path.
use Rattle.std.{proofs.Common.{◌≡◌, ℕ, ◌+◌, ◌*◌, ◌/◌, ◌%◌, ◌^◌, ◌<◌, ◌≤◌, List, sym, ap, ◌∙◌, subst, arith}}
use Rattle.std.proofs.Math.Nat.{mod-lt}
use Rattle.fm_path_meaning.specs.{declared.dim.Dim.{Dim}, Steady.{IsSteady}, Walk.{offset_at}}
use Rattle.fm_records_query.specs.Plan.{value_count}
use Rattle.fm_group.proofs.Ordinals.{admitted, some_left, value_inside}
use Rattle.fm_group.specs.{Values.{AreValued, Valued, count_of, in_record, indices_at, offset_of}}

module _ (v : Valued) (are : AreValued v) (n : ℕ) (below : n < count_of v) {at index : ℕ} {dims : List Dim} (is_at : at ≡ v.path.offset)
    (is_dims : dims ≡ v.path.dims) (is_index : index ≡ n % in_record v) where
  index_low : n % in_record v < in_record v
  index_low = mod-lt n (some_left (v.records.size / v.path.root_size) (in_record v) n below)

  pub index_there : index < value_count dims
  index_there =
      subst (λ (k : ℕ). k < value_count dims) (sym is_index)
      (subst (λ (ds : List Dim). n % in_record v < value_count ds) (sym is_dims) index_low)

  pub few_there : value_count dims < 2 ^ 64
  few_there =
      let few = are.few in
      let small = are.stays.small in
      subst (λ (ds : List Dim). value_count ds < 2 ^ 64) (sym is_dims) (omega (arith, few, small))

  pub steady_there : IsSteady at dims (indices_at dims index)
  steady_there =
      subst (λ (k : ℕ). IsSteady at dims (indices_at dims k)) (sym is_index)
      (subst (λ (ds : List Dim). IsSteady at ds (indices_at ds (n % in_record v))) (sym is_dims)
      (subst (λ (k : ℕ). IsSteady k v.path.dims (indices_at v.path.dims (n % in_record v))) (sym is_at)
      (are.stays.steady (indices_at v.path.dims (n % in_record v)) (admitted v.path.dims (n % in_record v) index_low))))

  pub is_offset : {row size : ℕ} (result : ℕ) → row ≡ n / in_record v → size ≡ v.path.root_size → result ≡ offset_at at dims (indices_at dims index)
      → row * size + result ≡ offset_of v n
  is_offset {row} {size} result is_row is_size is =
      ap (λ k. row * size + k) is
      ∙ ap (λ k. row * size + offset_at k dims (indices_at dims index)) is_at
      ∙ ap (λ (ds : List Dim). row * size + offset_at v.path.offset ds (indices_at ds index)) is_dims
      ∙ ap (λ k. row * size + offset_at v.path.offset v.path.dims (indices_at v.path.dims k)) is_index
      ∙ ap (λ k. k * size + offset_at v.path.offset v.path.dims (indices_at v.path.dims (n % in_record v))) is_row
      ∙ ap (λ k. n / in_record v * k + offset_at v.path.offset v.path.dims (indices_at v.path.dims (n % in_record v))) is_size

-- and so near
pub place_near : (v : Valued) (n : ℕ) → AreValued v → n < count_of v → v.records.first + offset_of v n < 2 ^ 64
place_near v n are below =
    let inside = value_inside v are n below in
    let ends : v.records.first + v.records.size ≤ 2 ^ 40 = are.ends in
    omega (arith, inside, ends)
