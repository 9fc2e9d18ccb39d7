-- A resolved path as plain numbers, and why there is none.
use Rattle.std.specs.{Prelude.{◌≡◌, ℕ, List, map, Result, Ok, Err}}
use Rattle.fm_base.specs.declared.refusal.Refusal.{Refusal, TheVariants.{Memory}}
use Rattle.fm_lanes.specs.{declared.{order.Order.{Order, TheVariants.{Little, Big}}, value_kind.ValueKind.{ValueKind, TheVariants.{Byte, Boolean, Char, Short, Int, Long}}}}
use Rattle.fm_layout.specs.Tree.{Tree}
use Rattle.fm_path_text.specs.{declared.step.PathStep.{PathStep}, Grammar.{IsTextOf, IsNoPath}}
use Rattle.fm_path_meaning.specs.declared.dim.Dim.{Dim}
use Rattle.fm_path.specs.Resolution.{Resolution, StaysInside, IsResolved, IsRefusal}
use Rattle.fm_c_calls.specs.{declared.place.{Place.{Place}, Stride.{Stride}}, Output.{Fills}, Reading.{IsLayoutOf, IsNoLayout, IsNoText}}

-- byte, boolean, char, short, int and long
abbrev pub kind_code : ValueKind → ℕ
kind_code Byte = 0
kind_code Boolean = 1
kind_code Char = 2
kind_code Short = 3
kind_code Int = 4
kind_code Long = 5

abbrev pub order_code : Order → ℕ
order_code Little = 0
order_code Big = 1

abbrev pub stride_of : Dim → Stride
stride_of d = record { stride = d.stride; bound = d.bound }

abbrev pub strides_of : List Dim → List Stride
strides_of ds = map stride_of ds

-- the resolved path's numbers
abbrev pub place_of : Resolution → Place
place_of r = record {
  offset = r.offset;
  kind = kind_code r.value.kind;
  order = order_code r.value.order;
  alignment = r.value.alignment;
  root_size = r.root_size;
  root_alignment = r.root_alignment;
}

-- the path that the bytes spell is resolved against a layout to this
pub record IsPlacedIn (path : List ℕ) (t : Tree) (r : Resolution) : Type 0 where
  pub steps : List PathStep
  pub spelled : IsTextOf path steps
  pub resolved : IsResolved steps t r

-- why it isn't, the first cause that applies
pub data IsUnplacedIn (path : List ℕ) (t : Tree) (e : Refusal) : Type 0 where
  no_text : IsNoText path e → IsUnplacedIn path t e
  no_path : IsNoPath path e → IsUnplacedIn path t e
  not_resolved : (steps : List PathStep) → IsTextOf path steps → IsRefusal steps t e → IsUnplacedIn path t e

-- so against the layout whose JSON the bytes are
pub record IsPlaced (json path : List ℕ) (r : Resolution) : Type 0 where
  pub layout : Tree
  pub read : IsLayoutOf json layout
  pub placed : IsPlacedIn path layout r

pub record Places (json path : List ℕ) (new : Place) (old_strides new_strides : List Stride) (n : ℕ) : Type 0 where
  pub resolution : Resolution
  pub placed : IsPlaced json path resolution
  -- at admitted indices no sum passes 64 bits or falls below 0, and the value lies inside the record, aligned
  pub inside : StaysInside resolution
  pub is : new ≡ place_of resolution
  pub strides : Fills old_strides new_strides (strides_of resolution.dims) n

-- why there is no place, the first cause that applies; or memory was wanting
pub data IsNoPlace (json path : List ℕ) (e : Refusal) : Type 0 where
  no_layout : IsNoLayout json e → IsNoPlace json path e
  unplaced : (t : Tree) → IsLayoutOf json t → IsUnplacedIn path t e → IsNoPlace json path e
  no_memory : e ≡ Memory → IsNoPlace json path e

-- its numbers and its strides were put, these as far as there was room; or it was refused and nothing was
abbrev pub PutsPlace : List ℕ → List ℕ → Place → Place → List Stride → List Stride → Result ℕ Refusal → Type 0
PutsPlace json path old new old_strides new_strides (Ok n) = Places json path new old_strides new_strides n
PutsPlace json path old new old_strides new_strides (Err e) = (new ≡ old) × (new_strides ≡ old_strides) × IsNoPlace json path e
