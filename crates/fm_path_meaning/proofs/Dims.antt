-- Each open step has its dim, and its bound is the number of the indices that are admitted.
use Rattle.std.proofs.Common.{◌≡◌, refl, sym, subst, ℕ, pos, negsuc, zero, suc, ◌+◌, ◌-◌, ◌*◌, ◌/◌, ◌≤◌, Ok, List, ◌∷◌, inl, inr, arith, ◌∙◌}
use Rattle.std.proofs.{lemmas.{Bool.{cases_lt}, Nat.{div-add-mod'}, Result.{IfOk-at_ok}}, Math.Nat.{mul-le-mul_right}}
use Rattle.fm_layout.specs.{Tree.{Tree}, Size.{size_of}}
use Rattle.fm_path_text.specs.declared.step.PathStep.{PathStep, TheVariants.{Each, EachFrom}}
use Rattle.fm_path_meaning.specs.{declared.dim.Dim.{Dim}, Follow.{Lead, Part, Open, lead, end_at}, Walk.{dim_from, dim_of, Walk, with_dim}}
use Rattle.fm_path_meaning.{specs.Found.{IsDimOf, HasDims, no_step, closed_step, open_step, LeadsTo}, proofs.Agreeing.{each_walk}}
use Rattle.fm_path_meaning.proofs.Fitting.{Begins, IsLead, leads, closed_same, ups, downs}

-- a quotient is at least each number whose multiple fits
quotient_above : (x m i : ℕ) → i * suc m ≤ x → i ≤ x / suc m
quotient_above x m i h = elim (cases_lt (x / suc m) i) [
  | inl lt ↦ absurd (omega (arith, div-add-mod' x (suc m), mul-le-mul_right {m = x / suc m + 1} {n = i} (suc m) (omega arith)))
  | inr le ↦ le
]

-- what an open step begins in, its dim counts
is_dim : (p : PathStep) (n : ℕ) (u : Tree) → Begins p n → IsDimOf p n u (dim_from p n (size_of u))
is_dim Each n u h = record { below = λ i b. b; all = λ i b. b; stride = refl }
is_dim (EachFrom f (pos zero)) n u h = absurd (h.1 refl)
is_dim (EachFrom f (pos (suc s))) n u h = record {
  below = λ i b. ups f s n i h.0 b;
  all = λ i b. omega (arith, quotient_above (n - f - 1) s i (omega (arith, b)));
  stride = refl;
}
is_dim (EachFrom f (negsuc s)) n u h = record {
  below = λ i b. (downs f s i b, omega (arith, h.0));
  all = λ i b. omega (arith, quotient_above f s i b.0);
  stride = refl;
}
is_dim p n u h = absurd h

-- the dim of a step, and then the others
joined : (p : PathStep) (ps : List PathStep) (k : ℕ) (t : Tree) (l : Lead) (w : Walk) → lead k p t ≡ Ok l → IsLead p t l → HasDims ps (end_at l) w.dims
    → HasDims (p ∷ ps) t (with_dim (dim_of l) w.dims)
joined p ps k t (Part s u) w e h ds = closed_step k (Part s u) (closed_same k p t h.0 ∙ e) ds
joined p ps k t (Open q n u) w e h ds =
    open_step n u h.1 (subst (λ p. IsDimOf p n u (dim_from q n (size_of u))) (sym h.0) (is_dim q n u h.2)) ds

-- the dims that a path leads to are those of its open steps
pub leads_dims : (path : List PathStep) (t : Tree) (offset : ℕ) (dims : List Dim) (u : Tree) → LeadsTo path t offset dims u → HasDims path t dims
leads_dims path t offset dims u l =
    IfOk-at_ok (λ w. HasDims path t w.dims) l.walked (each_walk lead leads (λ ps k t w. HasDims ps t w.dims) (λ k t. no_step) joined path 0 t)
