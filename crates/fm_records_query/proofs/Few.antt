-- A path has no more values in a record than the record has bytes.
use Rattle.std.proofs.Common.{◌≡◌, ℕ, pos, negsuc, zero, suc, ◌-◌, ◌*◌, ◌≤◌, Option, Some, None, List, refl, ap, arith}
use Rattle.std.proofs.{Math.Nat.{div-le_self, mul-le-mul_left, mul-le-mul_right, mul_assoc}, lemmas.Result.{IfOk-at_ok}}
use Rattle.fm_lanes.specs.{Kind.{width_of}, declared.value_kind.ValueKind.{ValueKind, TheVariants.{Byte}}}
use Rattle.fm_layout.specs.{Size.{size_of}, Tree.{Tree, Value, Sequence}}
use Rattle.fm_path_text.specs.declared.step.PathStep.{PathStep, TheVariants.{Each, EachFrom}}
use Rattle.fm_path_meaning.{specs.Follow.{row_of, Lead, Part, Open, lead, end_at}, proofs.{Agreeing.{each_walk}, Fitting.{Begins, IsLead, leads}}}
use Rattle.fm_path_meaning.{proofs.Inside.{part_inside}, specs.{Found.{LeadsTo}, Walk.{by_of, dim_from, dim_of, with_dim}, declared.dim.Dim.{Dim}}}
use Rattle.fm_path.specs.{Resolution.{Resolution, IsResolved, IsSpecOf}, declared.value_spec.ValueSpec.{ValueSpec}}
use Rattle.fm_records_query.specs.Plan.{value_count}

-- how many indices a step has
abbrev indices : Option Dim → ℕ
indices None = 1
indices (Some d) = d.bound

counts_with : (o : Option Dim) (ds : List Dim) → value_count (with_dim o ds) ≡ indices o * value_count ds
counts_with None ds = omega arith
counts_with (Some d) ds = refl

-- an open step has at most as many indices as elements
bound_fits : (p : PathStep) (n bytes : ℕ) → Begins p n → (dim_from p n bytes).bound ≤ n
bound_fits Each n bytes h = omega arith
bound_fits (EachFrom f (pos zero)) n bytes h = omega arith
bound_fits (EachFrom f (pos (suc s))) n bytes h = omega (arith, h.0, div-le_self (n - f - 1) (suc s))
bound_fits (EachFrom f (negsuc s)) n bytes h = omega (arith, h.0, div-le_self f (suc s))
bound_fits p n bytes h = absurd h

row_size : (t : Tree) (n : ℕ) (u : Tree) → row_of t ≡ Some (n, u) → n * size_of u ≡ size_of t
row_size (Sequence c e l) n u h = let q : ◌≡◌ {A = ℕ × Tree} (n, u) (c, e) = cc in ap (λ r. r.0 * size_of r.1) q
row_size t n u h = absurd (cc)

-- what a step leads to fits into the layout, as often as it has indices
lead_fits : (p : PathStep) (t : Tree) (l : Lead) → IsLead p t l → indices (dim_of l) * size_of (end_at l) ≤ size_of t
lead_fits p t (Part s u) h = omega (arith, part_inside s t (by_of t (Part s u)) u h.1)
lead_fits p t (Open q n u) h =
    omega (arith, row_size t n u h.1, mul-le-mul_right {m = (dim_from q n (size_of u)).bound} {n = n} (size_of u) (bound_fits q n (size_of u) h.2))

-- so many times so many fit where each of the first holds the second
times_fit : (count many few bytes middle whole : ℕ) → count ≡ many * few → few * bytes ≤ middle → many * middle ≤ whole → count * bytes ≤ whole
times_fit count many few bytes middle whole e inner outer =
    omega (arith, ap (λ n. n * bytes) e, mul_assoc many few bytes, mul-le-mul_left {m = few * bytes} {n = middle} many inner, outer)

-- the layouts at a path's end fit into its root
ends_fit : (path : List PathStep) (t : Tree) (offset : ℕ) (dims : List Dim) (u : Tree) → LeadsTo path t offset dims u
    → value_count dims * size_of u ≤ size_of t
ends_fit path t offset dims u l =
    IfOk-at_ok (λ w. value_count w.dims * size_of w.last ≤ size_of t) l.walked
    (each_walk lead leads (λ ps k t w. value_count w.dims * size_of w.last ≤ size_of t) (λ k t. omega arith)
    (λ p ps k t l w e h q. times_fit (value_count (with_dim (dim_of l) w.dims)) (indices (dim_of l)) (value_count w.dims) (size_of w.last)
    (size_of (end_at l)) (size_of t) (counts_with (dim_of l) w.dims) q (lead_fits p t l h)) path 0 t)

-- ---- values have bytes

has_width : (k : ValueKind) → 1 ≤ width_of k
has_width Byte = omega arith
has_width k = omega arith

has_bytes : (u : Tree) (v : ValueSpec) → IsSpecOf u v → 1 ≤ size_of u
has_bytes (Value k o l) v h = has_width k
has_bytes u v h = absurd h

at_least_one : (many bytes whole : ℕ) → 1 ≤ bytes → many * bytes ≤ whole → many ≤ whole
at_least_one many bytes whole some fit = omega (arith, mul-le-mul_left {m = 1} {n = bytes} many some, fit)

-- a path has at most as many values in a layout as the layout has bytes
pub values_are_few : (path : List PathStep) (t : Tree) (r : Resolution) → IsResolved path t r → value_count r.dims ≤ size_of t
values_are_few path t r h =
    at_least_one (value_count r.dims) (size_of h.last) (size_of t) (has_bytes h.last r.value h.value) (ends_fit path t r.offset r.dims h.last h.leads)
