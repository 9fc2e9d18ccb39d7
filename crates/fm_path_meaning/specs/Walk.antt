-- One pass over a path: the offset, and what each open index does to it.
use Rattle.std.specs.Prelude.{ℕ, ℤ, pos, negsuc, ◌+◌, ◌-◌, ◌*◌, ◌/◌, ◌<◌, Option, Some, None, Result, Ok, List, [], ◌∷◌, nat_eq, if◌then◌else◌}
use Rattle.std.proofs.Common.{zero, suc}
use Rattle.fm_base.specs.declared.refusal.Refusal.{Refusal}
use Rattle.fm_path_text.specs.declared.step.PathStep.{PathStep, TheVariants.{EachFrom}}
use Rattle.fm_layout.specs.{Tree.{Tree}, Size.{size_of, member_offset}}
use Rattle.fm_path_meaning.specs.{declared.dim.Dim.{Dim}, Follow.{Lead, Part, Open, lead, lead_closed, end_at, ◌>>=◌}, Places.{Element, Member}}

-- how many indices i from 0 have 0 ≤ F + i*S < count, where F is below the count and S isn't 0
abbrev pub bound_of : ℕ → ℤ → ℕ → ℕ
bound_of f (pos zero) count = 0
bound_of f (pos (suc s)) count = (count - f - 1) / suc s + 1
bound_of f (negsuc s) count = f / suc s + 1

-- minus n
abbrev pub below : ℕ → ℤ
below zero = pos zero
below (suc n) = negsuc n

abbrev pub times : ℤ → ℕ → ℤ
times (pos s) n = pos (s * n)
times (negsuc s) n = below (suc s * n)

abbrev pub stride_of : ℤ → ℕ → ℕ → ℤ
stride_of s bytes bound = if nat_eq bound 1 then pos 0 else times s bytes

-- where one step leads: so many bytes on, with a dim where it is left open
pub record Move : Type 0 where
  pub by : ℕ
  pub dim : Option Dim
  pub to : Tree

abbrev pub Moved : Type 0
Moved = Result Move Refusal

-- the first element that an open step leads to, in bytes
abbrev pub first_bytes : PathStep → ℕ → ℕ
first_bytes (EachFrom f s) bytes = f * bytes
first_bytes p bytes = 0

-- the offset of what a step leads to, at index 0
abbrev pub by_of : Tree → Lead → ℕ
by_of t (Part (Member n) u) = member_offset n t
by_of t (Part (Element n) u) = n * size_of u
by_of t (Open p n u) = first_bytes p (size_of u)

-- the dim of an open step over so many elements
abbrev pub dim_from : PathStep → ℕ → ℕ → Dim
dim_from (EachFrom f s) count bytes = record { stride = stride_of s bytes (bound_of f s count); bound = bound_of f s count }
dim_from p count bytes = record { stride = pos bytes; bound = count }

abbrev pub dim_of : Lead → Option Dim
dim_of (Part s u) = None
dim_of (Open p n u) = Some (dim_from p n (size_of u))

abbrev pub move_by : Tree → Result Lead Refusal → Moved
move_by t r = r >>= λ l. Ok (record { by = by_of t l; dim = dim_of l; to = end_at l })

abbrev pub move : ℕ → PathStep → Tree → Moved
move k p t = move_by t (lead k p t)

-- the same where no step may be left open
abbrev pub move_closed : ℕ → PathStep → Tree → Moved
move_closed k p t = move_by t (lead_closed k p t)

-- where a path leads
pub record Walk : Type 0 where
  pub offset : ℕ
  pub dims : List Dim
  pub last : Tree

abbrev pub with_dim : Option Dim → List Dim → List Dim
with_dim None ds = ds
with_dim (Some d) ds = d ∷ ds

-- a move, and then this walk
abbrev pub walk_on : ℕ → Option Dim → Walk → Walk
walk_on by dim w = record { offset = by + w.offset; dims = with_dim dim w.dims; last = w.last }

abbrev pub moved : Move → Result Walk Refusal → Result Walk Refusal
moved m r = r >>= λ w. Ok (walk_on m.by m.dim w)

abbrev pub walk_by : (ℕ → PathStep → Tree → Moved) → List PathStep → ℕ → Tree → Result Walk Refusal
walk_by go [] k t = Ok (record { offset = 0; dims = []; last = t })
walk_by go (p ∷ ps) k t = go k p t >>= λ m. moved m (walk_by go ps (k + 1) m.to)

abbrev pub walk : List PathStep → Tree → Result Walk Refusal
walk path t = walk_by move path 0 t

abbrev pub walk_closed : List PathStep → Tree → Result Walk Refusal
walk_closed path t = walk_by move_closed path 0 t

-- the offset at an index of a dim
abbrev pub reach : ℕ → ℤ → ℕ → ℕ
reach at (pos s) i = at + s * i
reach at (negsuc s) i = at - suc s * i

-- the offset at indices
abbrev pub offset_at : ℕ → List Dim → List ℕ → ℕ
offset_at at [] is = at
offset_at at (d ∷ ds) [] = at
offset_at at (d ∷ ds) (i ∷ is) = offset_at (reach at d.stride i) ds is

-- an index for each dim, below its bound
abbrev pub AreAdmitted : List Dim → List ℕ → Type 0
AreAdmitted [] [] = Unit {0}
AreAdmitted (d ∷ ds) (i ∷ is) = (i < d.bound) × AreAdmitted ds is
AreAdmitted [] (i ∷ is) = ⊥
AreAdmitted (d ∷ ds) [] = ⊥
