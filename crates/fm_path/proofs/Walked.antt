-- The path of a line is walked to the value that the line shows.
use Rattle.std.proofs.Common.{◌≡◌, refl, sym, ap, subst, ℕ, suc, ◌+◌, ◌-◌, ◌^◌, min, Some, Ok, inl, inr, List, [], ◌∷◌, ◌++◌, map, arith, ◌∙◌}
use Rattle.std.proofs.lemmas.List.{append_assoc, append-nil}
use Rattle.fm_layout.specs.{Tree.{Label, Tree, Trees, Value, Padding, Sequence, Struct, Union, NoMore, More, alignment_of}, Size.{size_of, member_offset}}
use Rattle.fm_layout.specs.{Parts.{tree_at, member_of}, WellFormed.{IsWellFormed}}
use Rattle.fm_base_lists.{specs.Among.{IsAmong}, proofs.Among.{among_either}}
use Rattle.fm_path_text.specs.declared.step.PathStep.{PathStep, TheVariants.{Each}}
use Rattle.fm_path_meaning.specs.{Places.{Member}, Follow.{Lead, Part, Open, lead, end_at, ◌>>=◌}}
use Rattle.fm_path_meaning.{specs.Walk.{by_of, move_by, move, with_dim, walk_on, moved, walk_by}, proofs.Listed.{same_index}}
use Rattle.fm_path_meaning.specs.Walk as walk
use Rattle.fm_path.specs.{declared.value_spec.ValueSpec.{ValueSpec}, Laws.{dim_of, dims_of, IsOfPath}, Listing.{Line, step_to, lines, member_lines}}
use Rattle.fm_path.{specs.Resolution.{resolution}, proofs.{Resolving.{is_resolved}, Stepping.{member_lead}}}

-- a line below this layout goes on from the path, the offset and the dims that lead here, as the walk from here does
record IsWalked (path : List PathStep) (at : ℕ) (dims : List (ℕ × ℕ)) (t : Tree) (l : Line) : Type 0 where
  rest : List PathStep
  by : ℕ
  more : List (ℕ × ℕ)
  label : Label
  path_is : l.path ≡ path ++ rest
  offset_is : l.offset ≡ at + by
  dims_is : l.dims ≡ dims ++ more
  walked : (k : ℕ) → walk_by move rest k t ≡ Ok (record { offset = by; dims = map dim_of more; last = Value l.kind l.order label })

-- a step, and then the rest
step_walked : (path : List PathStep) (at at' : ℕ) (dims dims' d : List (ℕ × ℕ)) (t : Tree) (p : PathStep) (s : Lead) (l : Line)
    → ((k : ℕ) → lead k p t ≡ Ok s) → ((ds : List (ℕ × ℕ)) → with_dim (walk.dim_of s) (map dim_of ds) ≡ map dim_of (d ++ ds))
    → at' ≡ at + by_of t s → dims' ≡ dims ++ d → IsWalked (path ++ p ∷ []) at' dims' (end_at s) l → IsWalked path at dims t l
step_walked path at at' dims dims' d t p s l leads md ea ed w = record {
  rest = p ∷ w.rest;
  by = by_of t s + w.by;
  more = d ++ w.more;
  label = w.label;
  path_is = w.path_is ∙ append_assoc path (p ∷ []) w.rest;
  offset_is = omega (arith, w.offset_is, ea);
  dims_is = w.dims_is ∙ ap (λ x. x ++ w.more) ed ∙ append_assoc dims d w.more;
  walked = λ k.
      ap (λ r. move_by t r >>= λ m. moved m (walk_by move w.rest (k + 1) m.to)) (leads k)
      ∙ ap (λ r. r >>= λ x. Ok (walk_on (by_of t s) (walk.dim_of s) x)) (w.walked (k + 1))
      ∙ ap (λ ds. Ok (record { offset = by_of t s + w.by; dims = ds; last = Value l.kind l.order w.label })) (md w.more);
}

mutual
  -- each line of a layout is walked
  walked : (t : Tree) (path : List PathStep) (at : ℕ) (dims : List (ℕ × ℕ)) (l : Line) → IsAmong l (lines path at dims t) → IsWalked path at dims t l
  walked (Value k o b) path at dims l (inl e) = subst (IsWalked path at dims (Value k o b)) (sym e) (record {
    rest = [];
    by = 0;
    more = [];
    label = b;
    path_is = sym (append-nil path);
    offset_is = omega arith;
    dims_is = sym (append-nil dims);
    walked = λ k. refl;
  })
  walked (Value k o b) path at dims l (inr h) = absurd h
  walked (Padding n b) path at dims l h = absurd h
  walked (Sequence n e b) path at dims l h =
      step_walked path at at dims (dims ++ (size_of e, n) ∷ []) ((size_of e, n) ∷ []) (Sequence n e b) Each (Open Each n e) l
      (λ k. refl) (λ ds. refl) (omega arith) refl
      (walked e (path ++ Each ∷ []) at (dims ++ (size_of e, n) ∷ []) l h)
  walked (Struct ms b) path at dims l h = member_walked ms path at dims (Struct ms b) 0 l (λ j u e. same_index (Struct ms b) u j (0 + j) (omega arith) e) h
  walked (Union ms b) path at dims l h = member_walked ms path at dims (Union ms b) 0 l (λ j u e. same_index (Union ms b) u j (0 + j) (omega arith) e) h

  -- the same of the members from an index on
  member_walked : (ts : Trees) (path : List PathStep) (at : ℕ) (dims : List (ℕ × ℕ)) (group : Tree) (i : ℕ) (l : Line)
      → ((j : ℕ) (u : Tree) → tree_at j ts ≡ Some u → member_of (i + j) group ≡ Some u)
      → IsAmong l (member_lines path at dims group i ts) → IsWalked path at dims group l
  member_walked NoMore path at dims group i l f h = absurd h
  member_walked (More t ts) path at dims group i l f h =
      elim (among_either l (lines (path ++ step_to group i t ∷ []) (at + member_offset i group) dims t) _ h) [
        | inl here ↦
            step_walked path at (at + member_offset i group) dims dims [] group (step_to group i t) (Part (Member i) t) l
            (λ k. member_lead k i group t (same_index group t (i + 0) i (omega arith) (f 0 t refl))) (λ ds. refl) refl (sym (append-nil dims))
            (walked t (path ++ step_to group i t ∷ []) (at + member_offset i group) dims l here)
        | inr there ↦
            member_walked ts path at dims group (i + 1) l (λ j u e. same_index group u (i + suc j) (i + 1 + j) (omega arith) (f (suc j) u e)) there
      ]

-- the path of a line is walked to what the line says
pub line_walked : (t : Tree) (l : Line) → IsAmong l (lines [] 0 [] t)
    → (b : Label) × (walk.walk l.path t ≡ Ok (record { offset = l.offset; dims = dims_of l; last = Value l.kind l.order b }))
line_walked t l h =
    let w = walked t [] 0 [] l h in
    let by_is : w.by ≡ l.offset = omega (arith, w.offset_is) in (
      w.label,
      ap (λ p. walk.walk p t) w.path_is ∙ w.walked 0
          ∙ ap (λ n. Ok (record { offset = n; dims = map dim_of w.more; last = Value l.kind l.order w.label })) by_is
          ∙ ap (λ ds. Ok (record { offset = l.offset; dims = map dim_of ds; last = Value l.kind l.order w.label })) (sym w.dims_is),
    )

-- The path of each line is resolved to what the line says.
pub line_resolves : (t : Tree) (l : Line) → IsWellFormed t → IsAmong l (lines [] 0 [] t) → IsOfPath t l
line_resolves t l well h =
    let w = line_walked t l h in
    let v : ValueSpec = record { kind = l.kind; order = l.order; alignment = w.0.alignment } in
    record {
      resolution = resolution (min l.offset (2 ^ 64 - 1)) (dims_of l) v (size_of t) (alignment_of t);
      resolved = is_resolved l.path t (min l.offset (2 ^ 64 - 1)) (dims_of l) (Value l.kind l.order w.0) v (size_of t) (alignment_of t) well
          (record { whole = l.offset; kept = refl; walked = w.1 }) (refl, refl, refl) refl refl;
      offset = refl;
      dims = refl;
      kind = refl;
      order = refl;
    }
