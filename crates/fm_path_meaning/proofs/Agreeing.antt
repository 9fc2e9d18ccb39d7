-- The offset at admitted indices is that of the place that following the path finds.
use Rattle.std.{proofs.Common.{◌≡◌, refl, sym, ap, subst, ℕ, ℤ, pos, negsuc, ◌+◌, ◌≤◌, Result, Ok, Err, List, [], ◌∷◌, arith, ◌∙◌}, specs.Result.{IfOk}}
use Rattle.fm_base.specs.declared.refusal.Refusal.{Refusal}
use Rattle.fm_layout.specs.{Tree.{Tree}, Size.{size_of}}
use Rattle.fm_path_text.specs.declared.step.PathStep.{PathStep}
use Rattle.fm_path_meaning.specs.{declared.dim.Dim.{Dim}, Places.{Step, Element, IsAt}}
use Rattle.fm_path_meaning.specs.Follow.{Lead, Part, Open, element_at, step_at, end_at, first, after, before, ◌>>=◌, follow_by}
use Rattle.fm_path_meaning.specs.Walk.{first_bytes, by_of, dim_from, dim_of, move_by, Walk, walk_on, moved, walk_by, reach, offset_at, AreAdmitted}
use Rattle.fm_path_meaning.{specs.Steady.{dip}, proofs.Fitting.{IsLead, lands}}

-- no index leads back further than the offset so far
abbrev pub StaysAbove : ℕ → List Dim → List ℕ → Type 0
StaysAbove at [] is = Unit {0}
StaysAbove at (d ∷ ds) [] = Unit {0}
StaysAbove at (d ∷ ds) (i ∷ is) = (dip d.stride i ≤ at) × StaysAbove (reach at d.stride i) ds is

-- an offset that starts further on ends further on
reach_more : (a b : ℕ) (z : ℤ) (i : ℕ) → dip z i ≤ b → reach (a + b) z i ≡ a + reach b z i
reach_more a b (pos s) i h = omega arith
reach_more a b (negsuc s) i h = omega arith

-- so do the offsets at all indices
steady_more : (a b : ℕ) (ds : List Dim) (is : List ℕ) → StaysAbove b ds is → StaysAbove (a + b) ds is × (offset_at (a + b) ds is ≡ a + offset_at b ds is)
steady_more a b [] is h = (tt, refl)
steady_more a b (d ∷ ds) [] h = (tt, refl)
steady_more a b (d ∷ ds) (i ∷ is) h =
    let e = reach_more a b d.stride i h.0 in
    let r = steady_more a (reach b d.stride i) ds is h.1 in
    ((omega (arith, h.0), subst (λ x. StaysAbove x ds is) (sym e) r.0), ap (λ x. offset_at x ds is) e ∙ r.1)

module _ (go : ℕ → PathStep → Tree → Result Lead Refusal) where
  -- the walk, where steps lead so
  abbrev pub walked : List PathStep → ℕ → Tree → Result Walk Refusal
  walked ps k t = walk_by (λ k p t. move_by t (go k p t)) ps k t

  -- what holds of no step, and of a step before a walk, holds of each walk
  pub each_walk : ((k : ℕ) (p : PathStep) (t : Tree) → IfOk (go k p t) (IsLead p t)) → (P : List PathStep → ℕ → Tree → Walk → Type 0)
      → ((k : ℕ) (t : Tree) → P [] k t (record { offset = 0; dims = []; last = t }))
      → ((p : PathStep) (ps : List PathStep) (k : ℕ) (t : Tree) (l : Lead) (w : Walk) → go k p t ≡ Ok l → IsLead p t l → P ps (k + 1) (end_at l) w
      → P (p ∷ ps) k t (walk_on (by_of t l) (dim_of l) w))
      → (ps : List PathStep) (k : ℕ) (t : Tree) → IfOk (walked ps k t) (P ps k t)
  each_walk leads P none more [] k t = none k t
  each_walk leads P none more (p ∷ ps) k t = step (go k p t) refl (leads k p t) (λ u. each_walk leads P none more ps (k + 1) u)
    where
      rest : (l : Lead) (r : Result Walk Refusal) → go k p t ≡ Ok l → IsLead p t l → IfOk r (P ps (k + 1) (end_at l))
          → IfOk (moved (record { by = by_of t l; dim = dim_of l; to = end_at l }) r) (P (p ∷ ps) k t)
      rest l (Ok w) e h q = more p ps k t l w e h q
      rest l (Err x) e h q = tt

      step : (r : Result Lead Refusal) → go k p t ≡ r → IfOk r (IsLead p t) → ((u : Tree) → IfOk (walked ps (k + 1) u) (P ps (k + 1) u))
          → IfOk (move_by t r >>= λ m. moved m (walked ps (k + 1) m.to)) (P (p ∷ ps) k t)
      step (Ok l) e h again = rest l (walked ps (k + 1) (end_at l)) e h (again (end_at l))
      step (Err x) e h again = tt

  -- at these indices following the path finds the place that the walk's offset gives
  pub record Meets (ps : List PathStep) (k : ℕ) (t : Tree) (w : Walk) (is : List ℕ) : Type 0 where
    pub steps : List Step
    pub follows : follow_by go ps k t is ≡ Ok steps
    pub stands : IsAt steps t (offset_at w.offset w.dims is) w.last
    pub steady : StaysAbove w.offset w.dims is

  abbrev pub Agrees : List PathStep → ℕ → Tree → Walk → Type 0
  Agrees ps k t w = (is : List ℕ) → AreAdmitted w.dims is → Meets ps k t w is

  -- a step, and then the rest
  joined : (p : PathStep) (ps : List PathStep) (k : ℕ) (t : Tree) (l : Lead) (w : Walk) → go k p t ≡ Ok l → IsLead p t l → Agrees ps (k + 1) (end_at l) w
      → Agrees (p ∷ ps) k t (walk_on (by_of t l) (dim_of l) w)
  joined p ps k t (Part s u) w e h ih is a =
      let m = ih is a in
      let g = steady_more (by_of t (Part s u)) w.offset w.dims is m.steady in
      record {
        steps = s ∷ m.steps;
        follows = ap (λ r. r >>= λ l. before (step_at l (first is)) (follow_by go ps (k + 1) (end_at l) (after l is))) e ∙ ap (before s) m.follows;
        stands = (by_of t (Part s u), offset_at w.offset w.dims is, u, h.1, m.stands, g.1);
        steady = g.0;
      }
  joined p ps k t (Open q n u) w e h ih [] a = absurd a
  joined p ps k t (Open q n u) w e h ih (i ∷ is) a =
      let by = first_bytes q (size_of u) in
      let d = dim_from q n (size_of u) in
      let l = lands p q t n u i h a.0 in
      let m = ih is a.1 in
      let g = steady_more (reach by d.stride i) w.offset w.dims is m.steady in
      let on : reach (by + w.offset) d.stride i ≡ reach by d.stride i + w.offset = ap (λ x. reach x d.stride i) (omega arith)
      ∙ reach_more w.offset by d.stride i l.1 ∙ omega arith in
      record {
        steps = Element (element_at q i) ∷ m.steps;
        follows = ap (λ r. r >>= λ l. before (step_at l i) (follow_by go ps (k + 1) (end_at l) (after l (i ∷ is)))) e
            ∙ ap (before (Element (element_at q i))) m.follows;
        stands = (reach by d.stride i, offset_at w.offset w.dims is, u, l.0, m.stands, ap (λ x. offset_at x w.dims is) on ∙ g.1);
        steady = (omega (arith, l.1), subst (λ x. StaysAbove x w.dims is) (sym on) g.0);
      }

  -- the walk and following agree on the place at admitted indices
  pub agrees : ((k : ℕ) (p : PathStep) (t : Tree) → IfOk (go k p t) (IsLead p t)) → (ps : List PathStep) (k : ℕ) (t : Tree)
      → IfOk (walked ps k t) (Agrees ps k t)
  agrees leads = each_walk leads Agrees (λ k t is a. record { steps = []; follows = refl; stands = (refl, refl); steady = tt }) joined

  -- and on each refusal
  pub refuses : (ps : List PathStep) (k : ℕ) (t : Tree) (e : Refusal) → walked ps k t ≡ Err e → (is : List ℕ) → follow_by go ps k t is ≡ Err e
  refuses [] k t e h is = absurd (cc)
  refuses (p ∷ ps) k t e h is = step (go k p t) h (λ u f. refuses ps (k + 1) u e f)
    where
      none : (m : Walk → Walk) (r : Result Walk Refusal) → (r >>= λ w. Ok (m w)) ≡ Err e → r ≡ Err e
      none m (Ok w) h = absurd (cc)
      none m (Err x) h = h

      step : (r : Result Lead Refusal) → (move_by t r >>= λ m. moved m (walked ps (k + 1) m.to)) ≡ Err e
          → ((u : Tree) → walked ps (k + 1) u ≡ Err e → (is : List ℕ) → follow_by go ps (k + 1) u is ≡ Err e)
          → (r >>= λ l. before (step_at l (first is)) (follow_by go ps (k + 1) (end_at l) (after l is))) ≡ Err e
      step (Ok l) h again = ap (before (step_at l (first is))) (again (end_at l) (none _ _ h) (after l is))
      step (Err x) h again = ap Err (cc)
