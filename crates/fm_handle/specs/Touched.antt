-- Which bytes the calls of a handle touch: those of the path's place.
use Rattle.std.specs.Prelude.{◌≡◌, ℕ, Bool, ◌+◌, ◌%◌, ◌≤◌, List, length, Ok}
use Rattle.fm_layout.specs.{Tree.{Tree, alignment_of}, Size.{size_of}}
use Rattle.fm_path.specs.{declared.value_spec.ValueSpec.{ValueSpec}, Resolution.{Resolution, IsResolved, IsSpecOf}}
use Rattle.fm_path_meaning.specs.Found.{Finds}
use Rattle.fm_segment.specs.Region.{Region}
use Rattle.fm_path_text.specs.declared.step.PathStep.{PathStep}
use Rattle.fm_handle.specs.Place.{place_of, writable_place_of, update_place_of}

-- The layout stands at the base, in the region and aligned.
-- The value stands at the place that the path finds in it
pub record StandsAtPath (path : List PathStep) (t : Tree) (is : List ℕ) (base : ℕ) (h : Resolution) (r : Region) (place : ℕ) : Type 0 where
  pub at : ℕ
  pub last : Tree
  pub finds : Finds path t is at last
  pub value : IsSpecOf last h.value
  pub stands : place ≡ r.first + base + at
  pub fits : base + size_of t ≤ r.size
  pub aligned : (r.first + base) % alignment_of t ≡ 0

-- the place that a call finds: one that reads, one that writes, or one that works on such values alone
pub data ComesTo (base : ℕ) (is : List ℕ) (h : Resolution) (r : Region) (place : ℕ) : Type 0 where
  reads : place_of base is h r ≡ Ok place → ComesTo base is h r place
  writes : writable_place_of base is h r ≡ Ok place → ComesTo base is h r place
  updates : (works_on : ValueSpec → Bool) → update_place_of works_on base is h r ≡ Ok place → ComesTo base is h r place

-- wherever a call of a handle of a resolved path comes to
abbrev pub StandsAtItsPath : Type 0
StandsAtItsPath =
    (path : List PathStep) (t : Tree) (h : Resolution) → IsResolved path t h
    → (base : ℕ) (is : List ℕ) (r : Region) (place : ℕ) → length is ≡ length h.dims → ComesTo base is h r place
    → StandsAtPath path t is base h r place
