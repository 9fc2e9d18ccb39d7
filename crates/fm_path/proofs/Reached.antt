-- The steps to a value are those to which a line's path comes.
use Rattle.std.proofs.Common.{◌≡◌, refl, sym, ap, subst, ℕ, zero, suc, ◌+◌, Some, Result, Ok, inl, List, [], ◌∷◌, ◌++◌, map, arith, ◌∙◌}
use Rattle.std.proofs.lemmas.{List.{append_assoc, append-nil}, Result.{IfOk-at_ok}}
use Rattle.fm_base.specs.declared.refusal.Refusal.{Refusal}
use Rattle.fm_lanes.specs.declared.{order.Order.{Order}, value_kind.ValueKind.{ValueKind}}
use Rattle.fm_layout.specs.{Tree.{Label, Tree, Trees, Value, Sequence, Struct, Union, NoMore, More}, Size.{size_of, sum_before, member_offset}}
use Rattle.fm_layout.specs.Parts.{form_of, tree_at, member_of, IsValue}
use Rattle.fm_base_lists.{specs.Among.{IsAmong}, proofs.Among.{among_left, among_right}}
use Rattle.fm_path_text.specs.declared.step.PathStep.{PathStep, TheVariants.{Each}}
use Rattle.fm_path_meaning.specs.Places.{Step, Element, Member, Place, places, IsAt}
use Rattle.fm_path_meaning.specs.{Follow.{Lead, Part, Open, lead, step_at, end_at, first, after, before, ◌>>=◌, follow_by}, Walk.{AreAdmitted, offset_at}}
use Rattle.fm_path_meaning.proofs.{Agreeing.{Agrees, agrees}, Fitting.{leads}, Listed.{stands}, Once.{at_once}}
use Rattle.fm_path.{specs.{Laws.{dim_of, Shows}, Listing.{Line, step_to, lines, member_lines}}, proofs.{Stepping.{member_lead}, Walked.{line_walked}}}

abbrev line : List PathStep → ℕ → List (ℕ × ℕ) → ValueKind → Order → Line
line path at dims k o = record { path = path; offset = at; dims = dims; kind = k; order = o }

-- lines of equal parts are equal
same_line : (path path' : List PathStep) (at at' : ℕ) (dims dims' : List (ℕ × ℕ)) (k : ValueKind) (o : Order) → path ≡ path' → at ≡ at' → dims ≡ dims'
    → line path at dims k o ≡ line path' at' dims' k o
same_line path path' at at' dims dims' k o e f g = cc

same_ok : (r : Result (List Step) Refusal) (x y : List Step) → r ≡ Ok x → r ≡ Ok y → x ≡ y
same_ok r x y a b = cc

-- a line below this layout, whose path goes on from the one that leads here, comes at some indices to the value at these steps
record IsReached (path : List PathStep) (at : ℕ) (dims : List (ℕ × ℕ)) (t : Tree) (ss : List Step) (k : ValueKind) (o : Order) : Type 0 where
  rest : List PathStep
  by : ℕ
  more : List (ℕ × ℕ)
  indices : List ℕ
  among : IsAmong (line (path ++ rest) (at + by) (dims ++ more) k o) (lines path at dims t)
  admitted : AreAdmitted (map dim_of more) indices
  follows : (n : ℕ) → follow_by lead rest n t indices ≡ Ok ss

-- a step, with an index where it is left open, and then the rest
in_step : (path : List PathStep) (at by : ℕ) (dims d : List (ℕ × ℕ)) (t : Tree) (p : PathStep) (s : Lead) (js : List ℕ) (step : Step) (ss : List Step)
    (k : ValueKind) (o : Order) → ((n : ℕ) → lead n p t ≡ Ok s)
    → ((is : List ℕ) → (step_at s (first (js ++ is)) ≡ step) × (after s (js ++ is) ≡ is))
    → ((more : List (ℕ × ℕ)) (is : List ℕ) → AreAdmitted (map dim_of more) is → AreAdmitted (map dim_of (d ++ more)) (js ++ is))
    → ((l : Line) → IsAmong l (lines (path ++ p ∷ []) (at + by) (dims ++ d) (end_at s)) → IsAmong l (lines path at dims t))
    → IsReached (path ++ p ∷ []) (at + by) (dims ++ d) (end_at s) ss k o → IsReached path at dims t (step ∷ ss) k o
in_step path at by dims d t p s js step ss k o leads takes admits within r = record {
  rest = p ∷ r.rest;
  by = by + r.by;
  more = d ++ r.more;
  indices = js ++ r.indices;
  among = within _ (subst (λ l. IsAmong l (lines (path ++ p ∷ []) (at + by) (dims ++ d) (end_at s)))
      (same_line ((path ++ p ∷ []) ++ r.rest) (path ++ p ∷ r.rest) (at + by + r.by) (at + (by + r.by)) ((dims ++ d) ++ r.more) (dims ++ (d ++ r.more)) k o
      (append_assoc path (p ∷ []) r.rest) (omega arith) (append_assoc dims d r.more)) r.among);
  admitted = admits r.more r.indices r.admitted;
  follows = λ n.
      ap (λ r. r >>= λ l. before (step_at l (first is)) (follow_by lead rest (n + 1) (end_at l) (after l is))) (leads n)
      ∙ ap (λ x. before x (follow_by lead rest (n + 1) (end_at s) (after s is))) (takes r.indices).0
      ∙ ap (λ is. before step (follow_by lead rest (n + 1) (end_at s) is)) (takes r.indices).1
      ∙ ap (before step) (r.follows (n + 1));
}
  where
    rest : List PathStep
    rest = r.rest

    is : List ℕ
    is = js ++ r.indices

-- the lines of a member are among those of its group
member_among : (ts : Trees) (path : List PathStep) (at : ℕ) (dims : List (ℕ × ℕ)) (group u : Tree) (i j n : ℕ) (l : Line) → tree_at j ts ≡ Some u → n ≡ i + j
    → IsAmong l (lines (path ++ step_to group n u ∷ []) (at + member_offset n group) dims u) → IsAmong l (member_lines path at dims group i ts)
member_among NoMore path at dims group u i j n l e s h = absurd (cc)
member_among (More t ts) path at dims group u i zero n l e s h =
    let is : u ≡ t = cc in
    let k : n ≡ i = omega arith in
    among_left l (lines (path ++ step_to group i t ∷ []) (at + member_offset i group) dims t) _ (rw (← is, ← k) h)
member_among (More t ts) path at dims group u i (suc j) n l e s h =
    among_right l (lines (path ++ step_to group i t ∷ []) (at + member_offset i group) dims t) _
    (member_among ts path at dims group u (i + 1) j n l e (omega arith) h)

in_member : (path : List PathStep) (at : ℕ) (dims : List (ℕ × ℕ)) (group c : Tree) (ms : Trees) (i : ℕ) (ss : List Step) (k : ValueKind) (o : Order)
    → member_of i group ≡ Some c → tree_at i ms ≡ Some c
    → ((l : Line) → IsAmong l (member_lines path at dims group 0 ms) → IsAmong l (lines path at dims group))
    → IsReached (path ++ step_to group i c ∷ []) (at + member_offset i group) dims c ss k o → IsReached path at dims group (Member i ∷ ss) k o
in_member path at dims group c ms i ss k o e f within r =
    in_step path at (member_offset i group) dims [] group (step_to group i c) (Part (Member i) c) [] (Member i) ss k o (λ n. member_lead n i group c e)
    (λ is. (refl, refl)) (λ more is a. a)
    (λ l h. within l (member_among ms path at dims group c 0 i i l f (omega arith)
    (subst (λ d. IsAmong l (lines (path ++ step_to group i c ∷ []) (at + member_offset i group) d c)) (append-nil dims) h)))
    (subst (λ d. IsReached (path ++ step_to group i c ∷ []) (at + member_offset i group) d c ss k o) (sym (append-nil dims)) r)

-- each value is reached
reached : (ss : List Step) (t : Tree) (a : ℕ) (k : ValueKind) (o : Order) (b : Label) (path : List PathStep) (at : ℕ) (dims : List (ℕ × ℕ))
    → IsAt ss t a (Value k o b) → IsReached path at dims t ss k o
reached [] t a k o b path at dims h = subst (λ t. IsReached path at dims t [] k o) h.1 (record {
  rest = [];
  by = 0;
  more = [];
  indices = [];
  among = inl (same_line (path ++ []) path (at + 0) at (dims ++ []) dims k o (append-nil path) (omega arith) (append-nil dims));
  admitted = tt;
  follows = λ n. refl;
})
reached (Element i ∷ ss) (Sequence n e lab) a k o b path at dims h =
    in_step path at 0 dims ((size_of e, n) ∷ []) (Sequence n e lab) Each (Open Each n e) (i ∷ []) (Element i) ss k o (λ n. refl) (λ is. (refl, refl))
    (λ more is a. (h.3.0, a)) (λ l q. subst (λ x. IsAmong l (lines (path ++ Each ∷ []) x (dims ++ (size_of e, n) ∷ []) e)) (omega arith) q)
    (reached ss e h.1 k o b (path ++ Each ∷ []) (at + 0) (dims ++ (size_of e, n) ∷ []) (subst (λ c. IsAt ss c h.1 (Value k o b)) h.3.2 h.4))
reached (Element i ∷ ss) t a k o b path at dims h = absurd h.3
reached (Member i ∷ ss) (Struct ms lab) a k o b path at dims h =
    in_member path at dims (Struct ms lab) h.2 ms i ss k o h.3.0 h.3.0 (λ l q. q)
    (reached ss h.2 h.1 k o b (path ++ step_to (Struct ms lab) i h.2 ∷ []) (at + sum_before i ms) dims h.4)
reached (Member i ∷ ss) (Union ms lab) a k o b path at dims h =
    in_member path at dims (Union ms lab) h.2 ms i ss k o h.3.0 h.3.0 (λ l q. q)
    (reached ss h.2 h.1 k o b (path ++ step_to (Union ms lab) i h.2 ∷ []) (at + 0) dims h.4)
reached (Member i ∷ ss) t a k o b path at dims h = let never = h.3.0 in absurd (cc)

-- Each value has a line that comes to it.
pub value_has_line : (t : Tree) (p : Place) → IsAmong p (places t) → IsValue p.layout → (l : Line) × IsAmong l (lines [] 0 [] t) × Shows t l p
value_has_line t p h v = go p.layout refl v
  where
    go : (u : Tree) → p.layout ≡ u → IsValue u → (l : Line) × IsAmong l (lines [] 0 [] t) × Shows t l p
    go (Value k o b) e v =
        let at = subst (λ u. IsAt p.steps t p.offset u) e (stands t p h) in
        let r = reached p.steps t p.offset k o b [] 0 [] at in
        let l = line r.rest (0 + r.by) r.more k o in
        let w = line_walked t l r.among in
        let m = IfOk-at_ok (Agrees lead r.rest 0 t) w.1 (agrees lead leads r.rest 0 t) r.indices r.admitted in
        let same : m.steps ≡ p.steps = same_ok _ _ _ m.follows (r.follows 0) in (
          l,
          r.among,
          record {
            indices = r.indices;
            admitted = r.admitted;
            follows = r.follows 0;
            offset = (at_once p.steps t _ p.offset _ _ (subst (λ ss. IsAt ss t (offset_at (0 + r.by) (map dim_of r.more) r.indices) (Value k o w.0))
                same m.stands) at).0;
            form = ap form_of e;
          },
        )
    go u e v = absurd v
