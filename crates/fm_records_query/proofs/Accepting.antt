-- The text of each query is read to its end, to that query.
use Rattle.std.proofs.Common.{◌≡◌, refl, sym, ap, ℕ, ◌+◌, ◌<◌, ◌≤◌, Bool, true, false, if◌then◌else◌, nat_lt, Option, Some, None, List, [], ◌∷◌, ◌++◌, length, arith, ◌∙◌}
use Rattle.std.{specs.{Prelude.{codes}, Fmt.{signed_decimal}, List.{AllByRecursion, join_by, flat_map}}, proofs.lemmas.List.{append_assoc, length-append}}
use Rattle.std.proofs.lemmas.Bool.{lt-ltb, Decides.{nat_tests}}
use Rattle.fm_path_text.{specs.{declared.{step.PathStep.{PathStep}, part.Part.{Part}}, Grammar.{path_text}}, proofs.Machine.{run_append, run_none, Accepts}}
use Rattle.fm_path_text.specs.declared.part.Part.TheVariants as part
use Rattle.fm_path_text.specs.declared.part.Move.TheVariants as move
use Rattle.fm_path_text.specs.declared.sign.Sign.TheVariants as sign
use Rattle.fm_path_text.specs.Reader as path
use Rattle.fm_path_text.proofs.Accepting as path_accepting
use Rattle.fm_records_query.specs.declared.{fold.Fold.{Fold, TheVariants.{Sum}}, operator.Operator.{Operator, TheVariants.{Equal}}}
use Rattle.fm_records_query.specs.declared.syntax.{ItemSyntax.{ItemSyntax, TheVariants.{Count, Of}}, ConditionSyntax.{ConditionSyntax}}
use Rattle.fm_records_query.specs.declared.{word.Word.TheVariants.{Folding}, stage.Role.{Role, TheVariants.{OfItem, OfCondition}}}
use Rattle.fm_records_query.specs.declared.stage.{Stage.TheVariants.{Start, InPath, Behind, Compare, Literal}, Turn.TheVariants.{Dead, NextItem}}
use Rattle.fm_records_query.specs.Grammar.{syntax, fold_text, item_text, condition_text, operator_text, where_text, query_text, IsItem, IsCondition, IsQuery}
use Rattle.fm_records_query.specs.Reader.{word_text, and_word, is_mark, marks, goes, condition, Spot, spot, moved, reads, run, start, whole}
use Rattle.fm_records_query.proofs.AcceptingNumbers.{number_of, value_number, reads_literal}

-- a path that was refused isn't read
path_none : (bs : List ℕ) (s : path.Spot) → path.run bs None ≡ Some s → ⊥
path_none bs s e = let f : None ≡ Some s = sym (run_none path.reads bs) ∙ e in cc

-- no path goes on with a byte that has no part in paths
other_dead : (p : Part) (k : ℕ) → path.next p k sign.Other ≡ move.Dead
other_dead part.Between k = refl
other_dead p k = refl

-- the bytes that end a path have no part in paths
mark_sign : (b : ℕ) → is_mark b ≡ true → path.sign_of b ≡ sign.Other
mark_sign b h = grind (arith, nat_tests)

-- a byte that a path goes on with ends none
no_mark : (d : List PathStep) (p : Part) (b : ℕ) (s : path.Spot) → path.onward (Some (path.spot d p)) b ≡ Some s → is_mark b ≡ false
no_mark d p b s e = go (is_mark b) refl
  where
    go : (c : Bool) → is_mark b ≡ c → is_mark b ≡ false
    go false h = h
    go true h =
        let dead : None ≡ Some s = sym (ap (λ x. path.moved d (path.next p (length d) x)) (mark_sign b h) ∙ ap (path.moved d) (other_dead p (length d))) ∙ e in
        absurd (cc)

-- the bytes of a path are read as a path's reader reads them
reads_bytes : (r : Role) (is : List ItemSyntax) (cs : List ConditionSyntax) (bs : List ℕ) (d : List PathStep) (p : Part) (s : path.Spot)
    → path.run bs (Some (path.spot d p)) ≡ Some s → run bs (Some (spot is cs (InPath r d p))) ≡ Some (spot is cs (InPath r s.done s.part))
reads_bytes r is cs [] d p s e = ap (λ o. moved is cs (goes r o)) e
reads_bytes r is cs (b ∷ bs) d p s e = go (λ t q. reads_bytes r is cs bs t.done t.part s q) (path.onward (Some (path.spot d p)) b) refl
  where
    go : ((t : path.Spot) → path.run bs (Some t) ≡ Some s → run bs (Some (spot is cs (InPath r t.done t.part))) ≡ Some (spot is cs (InPath r s.done s.part)))
        → (o : Option path.Spot) → path.onward (Some (path.spot d p)) b ≡ o
        → run (b ∷ bs) (Some (spot is cs (InPath r d p))) ≡ Some (spot is cs (InPath r s.done s.part))
    go again None q = absurd (path_none bs s (ap (path.run bs) (sym q) ∙ e))
    go again (Some t) q =
        ap (λ c. run bs (moved is cs (if c then marks r b (path.whole d p) else goes r (path.onward (Some (path.spot d p)) b)))) (no_mark d p b t q)
        ∙ ap (λ o. run bs (moved is cs (goes r o))) q
        ∙ again t (ap (path.run bs) (sym q) ∙ e)

-- the word before an item's path
reads_word : (is : List ItemSyntax) (f : Fold) → run (word_text (Folding f)) (Some (spot is [] Start)) ≡ Some (spot is [] (InPath (OfItem f) [] part.Between))
reads_word is Sum = refl
reads_word is f = refl

-- an item
reads_item : (is : List ItemSyntax) (i : ItemSyntax) → IsItem i → run (item_text i) (Some (spot is [] Start)) ≡ Some (spot is [] (Behind i 0))
reads_item is Count h = refl
reads_item is (Of f ps) h =
    let a = path_accepting.accepts ps h in
    ap (λ t. run t (Some (spot is [] Start))) (sym (append_assoc (fold_text f) (codes "(") (path_text ps ++ codes ")")))
    ∙ run_append reads (word_text (Folding f)) (path_text ps ++ codes ")") (Some (spot is [] Start))
    ∙ ap (run (path_text ps ++ codes ")")) (reads_word is f)
    ∙ run_append reads (path_text ps) (codes ")") (Some (spot is [] (InPath (OfItem f) [] part.Between)))
    ∙ ap (run (codes ")")) (reads_bytes (OfItem f) is [] (path_text ps) [] part.Between a.0 a.1)
    ∙ ap (λ o. moved is [] (marks (OfItem f) 41 o)) a.2

-- a further item behind one and a comma
next_item : (is : List ItemSyntax) (i j : ItemSyntax) → IsItem j → length is + 1 < 16
    → run (codes "," ++ item_text j) (Some (spot is [] (Behind i 0))) ≡ Some (spot (is ++ i ∷ []) [] (Behind j 0))
next_item is i j h few =
    ap (λ c. run (item_text j) (moved is [] (if c then NextItem i Start else Dead))) (lt-ltb (length is + 1) 16 few) ∙ reads_item (is ++ i ∷ []) j h

-- an operator behind a path
reads_operator : (is : List ItemSyntax) (cs : List ConditionSyntax) (d : List PathStep) (p : Part) (ps : List PathStep) (o : Operator)
    → path.whole d p ≡ Some ps → run (operator_text o) (Some (spot is cs (InPath OfCondition d p))) ≡ Some (spot is cs (Compare ps o))
reads_operator is cs d p ps Equal w = rw w refl
reads_operator is cs d p ps o w = rw w refl

-- a condition
reads_condition : (is : List ItemSyntax) (cs : List ConditionSyntax) (c : ConditionSyntax) → IsCondition c
    → run (condition_text c) (Some (spot is cs (InPath OfCondition [] part.Between))) ≡ Some (spot is cs (Literal c.path c.operator (number_of c.literal) 0))
reads_condition is cs c h =
    let a = path_accepting.accepts c.path h.is_path in
    run_append reads (path_text c.path) (operator_text c.operator ++ signed_decimal c.literal) (Some (spot is cs (InPath OfCondition [] part.Between)))
    ∙ ap (run (operator_text c.operator ++ signed_decimal c.literal)) (reads_bytes OfCondition is cs (path_text c.path) [] part.Between a.0 a.1)
    ∙ run_append reads (operator_text c.operator) (signed_decimal c.literal) (Some (spot is cs (InPath OfCondition a.0.done a.0.part)))
    ∙ ap (run (signed_decimal c.literal)) (reads_operator is cs a.0.done a.0.part c.path c.operator a.2)
    ∙ reads_literal is cs c.path c.operator c.literal h.is_literal

-- the condition that was read
same_condition : (c : ConditionSyntax) → condition c.path c.operator (number_of c.literal) ≡ c
same_condition c = ap (λ z. record { path = c.path; operator = c.operator; literal = z }) (value_number c.literal)

-- and behind a condition
reads_and : (is : List ItemSyntax) (cs : List ConditionSyntax) (c : ConditionSyntax) → length cs + 1 < 16
    → run and_word (Some (spot is cs (Literal c.path c.operator (number_of c.literal) 0))) ≡ Some (spot is (cs ++ c ∷ []) (InPath OfCondition [] part.Between))
reads_and is cs c few =
    let room : nat_lt (length cs + 1) 16 ≡ true = lt-ltb (length cs + 1) 16 few in
    rw (room, room, room, room, room) (ap (λ x. Some (spot is (cs ++ x ∷ []) (InPath OfCondition [] part.Between))) (same_condition c))

-- where a condition is whole
abbrev behind_condition : List ItemSyntax → List ConditionSyntax → ConditionSyntax → Spot
behind_condition is cs c = spot is cs (Literal c.path c.operator (number_of c.literal) 0)

-- a further condition behind one and the word and
next_condition : (is : List ItemSyntax) (cs : List ConditionSyntax) (c d : ConditionSyntax) → IsCondition d → length cs + 1 < 16
    → run (codes " and " ++ condition_text d) (Some (behind_condition is cs c)) ≡ Some (behind_condition is (cs ++ c ∷ []) d)
next_condition is cs c d h few =
    run_append reads (codes " and ") (condition_text d) (Some (behind_condition is cs c))
    ∙ ap (run (condition_text d)) (reads_and is cs c few)
    ∙ reads_condition is (cs ++ c ∷ []) d h

-- the last one, whole, behind the others
pub record Last {A : Type 0} (at : List A → A → Spot) (all : List A) (o : Option Spot) : Type 0 where
  pub others : List A
  pub last : A
  pub is : all ≡ others ++ last ∷ []
  pub there : o ≡ Some (at others last)

module _ {A : Type 0} (f : A → List ℕ) (sep : List ℕ) (Is : A → Type 0) (at : List A → A → Spot)
    (next : (xs : List A) (x y : A) → Is y → length xs + 1 < 16 → run (sep ++ f y) (Some (at xs x)) ≡ Some (at (xs ++ x ∷ []) y)) where
  -- parts that each have a separator before them
  reads_more : (ys xs : List A) (x : A) → AllByRecursion Is ys → length xs + 1 + length ys ≤ 16
      → Last at (xs ++ x ∷ ys) (run (flat_map (λ y. sep ++ f y) ys) (Some (at xs x)))
  reads_more [] xs x all few = record { others = xs; last = x; is = refl; there = refl }
  reads_more (y ∷ ys) xs x all few =
      let r = reads_more ys (xs ++ x ∷ []) y all.1 (omega (arith, length-append xs (x ∷ []))) in
      let rest = flat_map (λ y. sep ++ f y) ys in
      record {
        others = r.others;
        last = r.last;
        is = sym (append_assoc xs (x ∷ []) (y ∷ ys)) ∙ r.is;
        there = run_append reads (sep ++ f y) rest (Some (at xs x)) ∙ ap (run rest) (next xs x y all.0 (omega arith)) ∙ r.there;
      }

  -- parts with a separator between them
  reads_all : (from : Option Spot) (x : A) (ys : List A) → run (f x) from ≡ Some (at [] x) → AllByRecursion Is (x ∷ ys) → length (x ∷ ys) ≤ 16
      → Last at (x ∷ ys) (run (join_by f sep (x ∷ ys)) from)
  reads_all from x ys first all few =
      let r = reads_more ys [] x all.1 (omega arith) in
      let rest = flat_map (λ y. sep ++ f y) ys in
      record { others = r.others; last = r.last; is = r.is; there = run_append reads (f x) rest from ∙ ap (run rest) first ∙ r.there }

-- the items of a query
reads_items : (i : ItemSyntax) (js : List ItemSyntax) → AllByRecursion IsItem (i ∷ js) → length (i ∷ js) ≤ 16
    → Last (λ is i. spot is [] (Behind i 0)) (i ∷ js) (run (join_by item_text (codes ",") (i ∷ js)) start)
reads_items i js all few =
    reads_all item_text (codes ",") IsItem (λ is i. spot is [] (Behind i 0)) next_item start i js (reads_item [] i all.0) all few

-- the conditions of a query behind its last item
reads_where : (es : List ItemSyntax) (l : ItemSyntax) (c : ConditionSyntax) (ds : List ConditionSyntax) → AllByRecursion IsCondition (c ∷ ds)
    → length (c ∷ ds) ≤ 16
    → Last (behind_condition (es ++ l ∷ [])) (c ∷ ds) (run (where_text (c ∷ ds)) (Some (spot es [] (Behind l 0))))
reads_where es l c ds all few =
    let is = es ++ l ∷ [] in
    reads_all condition_text (codes " and ") IsCondition (behind_condition is) (next_condition is) (Some (spot is [] (InPath OfCondition [] part.Between))) c ds
    (reads_condition is [] c all.0) all few

-- each query's text is read, to that query
pub accepts : (is : List ItemSyntax) (cs : List ConditionSyntax) → IsQuery (syntax is cs)
    → Accepts reads start whole (query_text (syntax is cs)) (syntax is cs)
accepts [] cs h = absurd (omega (arith, h.some_item))
accepts (i ∷ js) [] h =
    let r = reads_items i js h.items h.few_items in (
      spot r.others [] (Behind r.last 0),
      run_append reads (join_by item_text (codes ",") (i ∷ js)) [] start ∙ r.there,
      ap (λ x. Some (syntax x [])) (sym r.is),
    )
accepts (i ∷ js) (c ∷ ds) h =
    let r = reads_items i js h.items h.few_items in
    let w = reads_where r.others r.last c ds h.conditions h.few_conditions in (
      spot (r.others ++ r.last ∷ []) w.others (Literal w.last.path w.last.operator (number_of w.last.literal) 0),
      run_append reads (join_by item_text (codes ",") (i ∷ js)) (where_text (c ∷ ds)) start ∙ ap (run (where_text (c ∷ ds))) r.there ∙ w.there,
      ap (λ x. Some (syntax (r.others ++ r.last ∷ []) (w.others ++ x ∷ []))) (same_condition w.last)
          ∙ ap (λ x. Some (syntax x (w.others ++ w.last ∷ []))) (sym r.is) ∙ ap (λ x. Some (syntax (i ∷ js) x)) (sym w.is),
    )
