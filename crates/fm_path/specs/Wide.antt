-- Dims that have other than one index.
use Rattle.std.specs.Prelude.{Bool, not, nat_eq, List, filter}
use Rattle.fm_path_meaning.specs.declared.dim.Dim.{Dim}

abbrev pub is_wide : Dim → Bool
is_wide d = not (nat_eq d.bound 1)

abbrev pub wide_dims : List Dim → List Dim
wide_dims ds = filter is_wide ds
