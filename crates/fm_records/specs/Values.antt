-- The values of a path in a record, as numbers.
use Rattle.std.specs.{Prelude.{ℕ, List, [], ◌∷◌, take, drop, map, ℤ}, List.{flat_map, range_with_len}}
use Rattle.fm_lanes.specs.{Coding.{value_of}, Kind.{width_of}, Value.{number_of_value}, declared.{order.Order.{Order}, value_kind.ValueKind.{ValueKind}}}
use Rattle.fm_path_meaning.specs.{Walk.{offset_at}, declared.dim.Dim.{Dim}}
use Rattle.fm_path.specs.Resolution.{Resolution}

-- The lists of indices below the bounds, in their order: the last index changes fastest. A bound of 0 leaves none
abbrev pub index_lists : List Dim → List (List ℕ)
index_lists [] = [] ∷ []
index_lists (d ∷ ds) = flat_map (λ i. map (λ is. i ∷ is) (index_lists ds)) (range_with_len 0 d.bound)

-- the number that the bytes of a value from a place on mean: a boolean is 0 or 1, a char its code
abbrev pub number_there : ValueKind → Order → ℕ → List ℕ → ℤ
number_there kind order at bytes = number_of_value (value_of kind order (take (width_of kind) (drop at bytes)))

-- the number of the path's value at these indices in a record of these bytes
abbrev pub number_at : Resolution → List ℕ → List ℕ → ℤ
number_at r is record_bytes = number_there r.value.kind r.value.order (offset_at r.offset r.dims is) record_bytes

-- those of all its values
abbrev pub numbers_in : Resolution → List ℕ → List ℤ
numbers_in r record_bytes = map (λ is. number_at r is record_bytes) (index_lists r.dims)
