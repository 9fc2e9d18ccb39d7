-- What a resolved path is seen as.
use Rattle.std.specs.{Prelude.{◌≡◌, ℕ, ◌+◌, ◌%◌, ◌^◌, ◌≤◌, true, List, Ok}, Int.{IsPowerOfTwo, is_power_of_two}}
use Rattle.fm_lanes.specs.Kind.{width_of}
use Rattle.fm_layout.specs.{Tree.{Tree, Value, alignment_of}, Size.{size_of}}
use Rattle.fm_path_meaning.specs.{declared.dim.Dim.{Dim}, Found.{Finds, HasDims, LeadsTo, EndsElsewhere, IsRefused, end_of}, Steady.{IsSteady}}
use Rattle.fm_path_meaning.specs.Walk.{AreAdmitted, offset_at}
use Rattle.fm_path.specs.declared.value_spec.ValueSpec.{ValueSpec}
use Rattle.fm_path_text.specs.declared.step.PathStep.{PathStep}
use Rattle.fm_base.specs.declared.refusal.Refusal.{Refusal, TheVariants.{NotValue, Memory}}

pub record Resolution : Type 0 where
  pub offset : ℕ
  pub dims : List Dim
  pub value : ValueSpec
  pub root_size : ℕ
  pub root_alignment : ℕ

abbrev pub resolution : ℕ → List Dim → ValueSpec → ℕ → ℕ → Resolution
resolution offset dims value root_size root_alignment = record {
  offset = offset;
  dims = dims;
  value = value;
  root_size = root_size;
  root_alignment = root_alignment;
}

-- a value at this offset stands at a multiple of its alignment, wherever the root stands at a multiple of its own
pub record StandsAligned (at alignment root_alignment : ℕ) : Type 0 where
  pub power : is_power_of_two alignment ≡ true
  pub offset : at % alignment ≡ 0
  pub root : root_alignment % alignment ≡ 0

-- at admitted indices no sum passes 64 bits or falls below 0, and the value lies inside the root, aligned
pub record StaysInside (r : Resolution) : Type 0 where
  pub steady : (is : List ℕ) → AreAdmitted r.dims is → IsSteady r.offset r.dims is
  pub inside : (is : List ℕ) → AreAdmitted r.dims is → offset_at r.offset r.dims is + width_of r.value.kind ≤ r.root_size
  pub aligned : (is : List ℕ) → AreAdmitted r.dims is → StandsAligned (offset_at r.offset r.dims is) r.value.alignment r.root_alignment
  pub small : r.root_size ≤ 2 ^ 40
  pub power : IsPowerOfTwo r.root_alignment

-- this is the value layout's kind, order and alignment
abbrev pub IsSpecOf : Tree → ValueSpec → Type 0
IsSpecOf (Value k o l) v = (v.kind ≡ k) × (v.order ≡ o) × (v.alignment ≡ l.alignment)
IsSpecOf t v = ⊥

-- the path through the layout is resolved to this
pub record IsResolved (path : List PathStep) (t : Tree) (r : Resolution) : Type 0 where
  pub last : Tree
  -- the value layout at the path's end
  pub ends : end_of path t ≡ Ok last
  pub value : IsSpecOf last r.value
  -- a dim for each step that is left open: its stride, and as many indices as are admitted
  pub dims : HasDims path t r.dims
  -- one pass over the path, with the offset at index 0
  pub leads : LeadsTo path t r.offset r.dims last
  -- an index below each bound: the place that following the path comes to
  pub finds : (is : List ℕ) → AreAdmitted r.dims is → Finds path t is (offset_at r.offset r.dims is) last
  pub root_size : r.root_size ≡ size_of t
  pub root_alignment : r.root_alignment ≡ alignment_of t

-- what resolving answers in place of that: the first step's refusal, whatever the indices; else that the path ends at no value
pub data IsRefusal (path : List PathStep) (t : Tree) : Refusal → Type 0 where
  at_step : (e : Refusal) → IsRefused path t e → IsRefusal path t e
  no_value : EndsElsewhere path t → IsRefusal path t NotValue
  no_memory : IsRefusal path t Memory
