-- All values of a path in the record at a place: what adding them asks for, and what was added.
use Rattle.std.specs.Prelude.{ℕ, List, ◌∷◌, length, Result}
use Rattle.fm_base.specs.{declared.refusal.Refusal.{Refusal}, View.{View}}
use Rattle.fm_path.specs.declared.value_spec.ValueSpec.{ValueSpec}
use Rattle.fm_path_meaning.specs.{declared.dim.Dim.{Dim}, Walk.{AreAdmitted}}
use Rattle.fm_segment.specs.Region.{Region}
use Rattle.fm_records.specs.{declared.found.Found.{Found}, Adds.{AddsNumbers, ReachesInside}, Few.{HasRoom}, Reads.{CanRead, Sees, value_places}}
use Rattle.fm_records.specs.{Values.{index_lists}, Words.{Seen}}

-- some indices are admitted
abbrev pub HasIndices : List Dim → Type 0
HasIndices dims = (is : List ℕ) × AreAdmitted dims is

-- At each index of the first dim there are some; they stand in the segment, and what was found has room for them
pub record CanAddAll (v : View) (s : Region) (place at : ℕ) (d : Dim) (ds : List Dim) (spec : ValueSpec) (found : Found) : Type 0 where
  pub can : CanRead v s
  pub some : HasIndices ds
  pub inside : ReachesInside s place at (d ∷ ds) spec
  pub room : HasRoom found (length (index_lists (d ∷ ds)))

-- they were read and added, in the order of index lists
abbrev pub AddsAll : (List Seen → Seen → List Seen) → View → View → Region → ℕ → ℕ → List Dim → ValueSpec → List Seen → List Seen → Found → Found
    → Result (Unit {0}) Refusal → Type 0
AddsAll keeps old new s place at dims spec k l f g result = Sees old new s (AddsNumbers keeps spec k (value_places place at dims) f g l) result
