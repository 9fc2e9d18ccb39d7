-- The pass over a path, step by step, and what it comes to.
use Rattle.std.proofs.Common.{◌≡◌, refl, sym, ap, subst, ℕ, ℤ, pos, negsuc, ◌+◌, ◌-◌, ◌%◌, ◌^◌, ◌<◌, ◌≤◌, min, Option, Some, None, Result, Ok, Err, List, [], ◌∷◌, ◌++◌, length, drop, get_or, arith, ◌∙◌}
use Rattle.std.{proofs.lemmas.{List.{append_assoc, append-nil, drop_more, drop_all}, Result.{IfOk-at_ok}}, specs.{Result.{IfOk}, Int.{IsPowerOfTwo}}}
use Rattle.fm_base.specs.declared.refusal.Refusal.{Refusal}
use Rattle.fm_layout.{specs.{Tree.{Tree, alignment_of}, Size.{size_of}, WellFormed.{IsWellFormed}}, proofs.Sound.{fit_of}}
use Rattle.fm_path_text.specs.declared.step.PathStep.{PathStep, TheVariants.{Each, EachFrom}}
use Rattle.fm_path_meaning.specs.{declared.dim.Dim.{Dim}, Follow.{Lead, Part, Open, lead, lead_closed, end_at, ◌>>=◌, follow_closed}}
use Rattle.fm_path_meaning.specs.{Found.{LeadsTo, Finds, FindsClosed, end_from, end_of, IsRefused}, Steady.{IsSteady}}
use Rattle.fm_path_meaning.specs.Walk.{Move, Moved, dim_of, move_by, move, move_closed, Walk, with_dim, moved, walk_by, walk, walk_closed, reach, offset_at, AreAdmitted}
use Rattle.fm_path_meaning.proofs.{Agreeing.{each_walk, Meets, StaysAbove, Agrees, agrees, refuses}, Fitting.{IsClosed, IsLead, leads, leads_closed}}
use Rattle.fm_path_meaning.proofs.{Inside.{inside, place_aligned, place_fits_root}, Listed.{listed}}

-- a walk behind an offset and dims
abbrev pub onto : ℕ → List Dim → Result Walk Refusal → Result Walk Refusal
onto a ds (Ok w) = Ok (record { offset = a + w.offset; dims = ds ++ w.dims; last = w.last })
onto a ds (Err e) = Err e

-- a dim at the end of the first list stands before the second
with_dim_append : (ds es : List Dim) (o : Option Dim) → ds ++ with_dim o es ≡ (ds ++ with_dim o []) ++ es
with_dim_append ds es None = ap (λ x. x ++ es) (sym (append-nil ds))
with_dim_append ds es (Some d) = sym (append_assoc ds (d ∷ []) es)

abbrev pub made : ℕ → List Dim → Tree → Result Walk Refusal
made a ds u = Ok (record { offset = a; dims = ds; last = u })

-- walks of equal parts are equal
made_like : (a b : ℕ) (ds es : List Dim) (u : Tree) → a ≡ b → ds ≡ es → made a ds u ≡ made b es u
made_like a b ds es u e f = cc

-- a move goes onto the way so far
onto_moved : (a : ℕ) (ds : List Dim) (m : Move) (r : Result Walk Refusal) → onto a ds (moved m r) ≡ onto (a + m.by) (ds ++ with_dim m.dim []) r
onto_moved a ds m (Err e) = refl
onto_moved a ds m (Ok w) = made_like (a + (m.by + w.offset)) (a + m.by + w.offset) (ds ++ with_dim m.dim w.dims) ((ds ++ with_dim m.dim []) ++ w.dims) w.last
    (omega arith) (with_dim_append ds w.dims m.dim)

-- what the loop keeps: the way so far, and then the rest, is the whole way
pub record IsOnWay (go : ℕ → PathStep → Tree → Moved) (path : List PathStep) (t : Tree) (k offset : ℕ) (dims : List Dim) (here : Tree) : Type 0 where
  pub true_offset : ℕ
  pub kept : offset ≡ min true_offset (2 ^ 64 - 1)
  pub way : onto true_offset dims (walk_by go (drop k path) k here) ≡ walk_by go path 0 t

module _ (go : ℕ → PathStep → Tree → Moved) (path : List PathStep) (t : Tree) (k offset : ℕ) (dims : List Dim) (here : Tree) (p : PathStep) where
  -- one more step
  pub on_way_more : (m : Move) (offset' : ℕ) (dims' : List Dim) → IsOnWay go path t k offset dims here → k < length path → p ≡ get_or path k p
      → go k p here ≡ Ok m → offset' ≡ min (offset + m.by) (2 ^ 64 - 1) → dims' ≡ dims ++ with_dim m.dim []
      → IsOnWay go path t (k + 1) offset' dims' m.to
  on_way_more m offset' dims' w lt is e eo ed = record {
    true_offset = w.true_offset + m.by;
    kept = omega (arith, w.kept, eo);
    way = ap (λ x. onto (w.true_offset + m.by) x (walk_by go (drop (k + 1) path) (k + 1) m.to)) ed
        ∙ sym (onto_moved w.true_offset dims m (walk_by go (drop (k + 1) path) (k + 1) m.to))
        ∙ ap (λ r. onto w.true_offset dims (r >>= λ m. moved m (walk_by go (drop (k + 1) path) (k + 1) m.to))) (sym e ∙ ap (λ s. go k s here) is)
        ∙ ap (λ ps. onto w.true_offset dims (walk_by go ps k here)) (sym (drop_more path k p lt))
        ∙ w.way;
  }

  -- a refused step refuses the path
  pub on_way_err : (e : Refusal) → IsOnWay go path t k offset dims here → k < length path → p ≡ get_or path k p → go k p here ≡ Err e
      → walk_by go path 0 t ≡ Err e
  on_way_err e w lt is m =
      sym w.way ∙ ap (λ ps. onto w.true_offset dims (walk_by go ps k here)) (drop_more path k p lt)
      ∙ ap (λ r. onto w.true_offset dims (r >>= λ m. moved m (walk_by go (drop (k + 1) path) (k + 1) m.to))) (sym (ap (λ s. go k s here) is) ∙ m)

-- behind the last step the way is the whole walk
pub on_way_end : (go : ℕ → PathStep → Tree → Moved) (path : List PathStep) (t : Tree) (k offset : ℕ) (dims : List Dim) (here : Tree)
    → IsOnWay go path t k offset dims here → length path ≤ k
    → (a : ℕ) × (offset ≡ min a (2 ^ 64 - 1)) × (walk_by go path 0 t ≡ made a dims here)
on_way_end go path t k offset dims here w le = (
  w.true_offset,
  w.kept,
  sym w.way ∙ ap (λ ps. onto w.true_offset dims (walk_by go ps k here)) (drop_all k path le)
      ∙ made_like (w.true_offset + 0) w.true_offset (dims ++ []) dims here (omega arith) (append-nil dims),
)

-- a refused walk is a refused path, whatever the indices
pub refused : (path : List PathStep) (t : Tree) (e : Refusal) → walk path t ≡ Err e → IsRefused path t e
refused path t e h = refuses lead path 0 t e h

-- the same where no step may be left open
pub refused_closed : (path : List PathStep) (t : Tree) (e : Refusal) → walk_closed path t ≡ Err e → follow_closed path t ≡ Err e
refused_closed path t e h = refuses lead_closed path 0 t e h []

-- index 0 everywhere
abbrev pub zeros : List ℕ → List ℕ
zeros [] = []
zeros (i ∷ is) = 0 ∷ zeros is

-- where some indices are admitted, index 0 is
zeros_admitted : (ds : List Dim) (is : List ℕ) → AreAdmitted ds is → AreAdmitted ds (zeros is)
zeros_admitted [] [] a = tt
zeros_admitted (d ∷ ds) (i ∷ is) a = (omega (arith, a.0), zeros_admitted ds is a.1)
zeros_admitted ds is a = absurd a

-- index 0 stays where it is
reach_zero : (at : ℕ) (z : ℤ) → reach at z 0 ≡ at
reach_zero at (pos s) = omega arith
reach_zero at (negsuc s) = omega arith

-- so do all of them
at_zeros : (at : ℕ) (ds : List Dim) (is : List ℕ) → offset_at at ds (zeros is) ≡ at
at_zeros at [] is = refl
at_zeros at (d ∷ ds) [] = refl
at_zeros at (d ∷ ds) (i ∷ is) = ap (λ x. offset_at x ds (zeros is)) (reach_zero at d.stride) ∙ at_zeros at ds is

module _ (path : List PathStep) (t : Tree) (a : ℕ) (dims : List Dim) (u : Tree) (w : walk path t ≡ made a dims u) where
  -- at these indices the walk meets following
  met : (is : List ℕ) → AreAdmitted dims is → Meets lead path 0 t (record { offset = a; dims = dims; last = u }) is
  met is h = IfOk-at_ok (Agrees lead path 0 t) w (agrees lead leads path 0 t) is h

  -- where some indices are admitted, the offset is that of a place
  small_offset : (is : List ℕ) → AreAdmitted dims is → a + size_of u ≤ size_of t
  small_offset is h =
      let m = met (zeros is) (zeros_admitted dims is h) in
      omega (arith, inside m.steps t _ u m.stands, at_zeros a dims is)

-- each offset on the way is that of a place
keeps_inside : (at most : ℕ) (ds : List Dim) (is : List ℕ) → most < 2 ^ 64 → ((js : List ℕ) → AreAdmitted ds js → offset_at at ds js ≤ most)
    → StaysAbove at ds is → AreAdmitted ds is → IsSteady at ds is
keeps_inside at most [] is lt f s a = tt
keeps_inside at most (d ∷ ds) [] lt f s a = tt
keeps_inside at most (d ∷ ds) (i ∷ is) lt f s a =
    let e = f (i ∷ zeros is) (a.0, zeros_admitted ds is a.1) in (
      record { back = s.0; on = omega (arith, e, at_zeros (reach at d.stride i) ds is) },
      keeps_inside (reach at d.stride i) most ds is lt (λ js b. f (i ∷ js) (a.0, b)) s.1 a.1,
    )

module _ (path : List PathStep) (t : Tree) (offset : ℕ) (dims : List Dim) (u : Tree) (well : IsWellFormed t) (l : LeadsTo path t offset dims u) where
  -- at these indices
  meets : (is : List ℕ) → AreAdmitted dims is → Meets lead path 0 t (record { offset = l.whole; dims = dims; last = u }) is
  meets is h = met path t l.whole dims u l.walked is h

  -- the offset was kept whole
  same_offset : (is : List ℕ) → AreAdmitted dims is → l.whole ≡ offset
  same_offset is h = omega (arith, l.kept, small_offset path t l.whole dims u l.walked is h, (fit_of t well).size)

  -- and is that of the place that following the path finds
  pub leads_finds : (is : List ℕ) → AreAdmitted dims is → Finds path t is (offset_at offset dims is) u
  leads_finds is h =
      let m = meets is h in
      subst (λ x. Finds path t is (offset_at x dims is) u) (same_offset is h)
      (record { steps = m.steps; follows = m.follows; listed = listed t m.steps (offset_at l.whole dims is) u m.stands })

  -- and that place lies inside the layout
  pub leads_inside : (is : List ℕ) → AreAdmitted dims is → offset_at offset dims is + size_of u ≤ size_of t
  leads_inside is h =
      let m = meets is h in
      subst (λ x. offset_at x dims is + size_of u ≤ size_of t) (same_offset is h) (inside m.steps t _ u m.stands)

  -- that place stands at a multiple of its alignment, which is a power of two and divides the layout's
  pub leads_aligned : (is : List ℕ) → AreAdmitted dims is
      → IsPowerOfTwo (alignment_of u) × (offset_at offset dims is % alignment_of u ≡ 0) × (alignment_of t % alignment_of u ≡ 0)
  leads_aligned is h =
      let m = meets is h in
      let fit = place_fits_root m.steps t (offset_at l.whole dims is) u well m.stands in (
        (fit_of u fit.0).power,
        subst (λ x. offset_at x dims is % alignment_of u ≡ 0) (same_offset is h) (place_aligned m.steps t (offset_at l.whole dims is) u well m.stands),
        fit.1,
      )

  -- so no sum over admitted indices passes 64 bits or falls below 0
  pub leads_steady : (is : List ℕ) → AreAdmitted dims is → IsSteady offset dims is
  leads_steady is h =
      subst (λ x. IsSteady x dims is) (same_offset is h)
      (keeps_inside l.whole (size_of t) dims is (omega (arith, (fit_of t well).size))
      (λ js b. let m = meets js b in omega (arith, inside m.steps t _ u m.stands)) (meets is h).steady h)

-- the layout at the walk's end is the one at the path's end
pub leads_end : (path : List PathStep) (t : Tree) (offset : ℕ) (dims : List Dim) (u : Tree) → LeadsTo path t offset dims u → end_of path t ≡ Ok u
leads_end path t offset dims u l =
    IfOk-at_ok (λ w. end_of path t ≡ Ok w.last) l.walked
    (each_walk lead leads (λ ps k t w. end_from ps k t ≡ Ok w.last) (λ k t. refl)
    (λ p ps k t l w e h q. ap (λ r. r >>= λ l. end_from ps (k + 1) (end_at l)) e ∙ q)
    path 0 t)

-- where no step is left open, the walk's offset is that of the place that following finds
pub closed_finds : (path : List PathStep) (t : Tree) (a : ℕ) (u : Tree) → walk_closed path t ≡ made a [] u
    → FindsClosed path t a u × (a + size_of u ≤ size_of t)
closed_finds path t a u w =
    let m = IfOk-at_ok (Agrees lead_closed path 0 t) w (agrees lead_closed leads_closed path 0 t) [] tt in
    (record { steps = m.steps; follows = m.follows; listed = listed t m.steps a u m.stands }, inside m.steps t a u m.stands)

-- where the path ends, what was kept of the walk is where it leads
pub on_way_leads : (path : List PathStep) (t : Tree) (k offset : ℕ) (dims : List Dim) (here : Tree) → IsOnWay move path t k offset dims here → length path ≤ k
    → LeadsTo path t offset dims here
on_way_leads path t k offset dims here w le = let e = on_way_end move path t k offset dims here w le in record { whole = e.0; kept = e.1; walked = e.2 }

-- the same where no step may be left open: the offset is that of the place
pub on_way_finds : (path : List PathStep) (t : Tree) (k offset : ℕ) (here : Tree) → IsWellFormed t → IsOnWay move_closed path t k offset [] here
    → length path ≤ k → FindsClosed path t offset here
on_way_finds path t k offset here well w le =
    let e = on_way_end move_closed path t k offset [] here w le in
    let f = closed_finds path t e.0 here e.2 in
    let same : e.0 ≡ offset = omega (arith, e.1, f.1, (fit_of t well).size) in
    subst (λ x. FindsClosed path t x here) same f.0

-- no step that may be taken where none is left open has a dim
no_dim : (p : PathStep) (t : Tree) (l : Lead) → IsClosed p → IsLead p t l → dim_of l ≡ None
no_dim p t (Part s u) c h = refl
no_dim p t (Open Each n u) c h = absurd (subst IsClosed h.0 c)
no_dim p t (Open (EachFrom f s) n u) c h = absurd (subst IsClosed h.0 c)
no_dim p t (Open q n u) c h = absurd h.2

closed_no_dim : (k : ℕ) (p : PathStep) (t : Tree) → IfOk (move_closed k p t) (λ m. m.dim ≡ None)
closed_no_dim k Each t = tt
closed_no_dim k (EachFrom f s) t = tt
closed_no_dim k p t = go (lead k p t) (leads k p t)
  where
    go : (r : Result Lead Refusal) → IfOk r (IsLead p t) → IfOk (move_by t r) (λ m. m.dim ≡ None)
    go (Ok l) h = no_dim p t l tt h
    go (Err x) h = tt

-- one more step where none may be left open
pub on_way_closed : (path : List PathStep) (t : Tree) (k offset : ℕ) (here : Tree) (p : PathStep) (m : Move) (offset' : ℕ)
    → IsOnWay move_closed path t k offset [] here → k < length path → p ≡ get_or path k p → move_closed k p here ≡ Ok m
    → offset' ≡ min (offset + m.by) (2 ^ 64 - 1) → IsOnWay move_closed path t (k + 1) offset' [] m.to
on_way_closed path t k offset here p m offset' w lt is e eo =
    on_way_more move_closed path t k offset [] here p m offset' [] w lt is e eo
    (ap (λ o. with_dim o []) (sym (IfOk-at_ok (λ m. m.dim ≡ None) e (closed_no_dim k p here))))
