-- One byte leaves what the next stage shows.
use Rattle.std.proofs.Common.{◌≡◌, refl, sym, ap, ℕ, true, nat_eq, Option, Some, None, List, [], ◌∷◌, ◌++◌, length, arith, ◌∙◌}
use Rattle.std.proofs.lemmas.{List.{append_assoc, append-nil}, Bool.{eqb-true, cond_both}}
use Rattle.fm_path_text.{specs.{declared.{step.PathStep.{PathStep}, part.Part.{Part}}, Grammar.{path_text}}, proofs.Machine.{run_append}}
use Rattle.fm_path_text.specs.Reader as path
use Rattle.fm_path_text.proofs.Reading as path_reading
use Rattle.fm_path_text.proofs.Accepting as path_accepting
use Rattle.fm_records_query.specs.declared.{syntax.{ItemSyntax.{ItemSyntax}, ConditionSyntax.{ConditionSyntax}}, word.Word.TheVariants.{Folding}}
use Rattle.fm_records_query.specs.declared.stage.{Role.{Role, TheVariants.{OfItem, OfCondition}}, Stage.{Stage}}
use Rattle.fm_records_query.specs.declared.stage.{Stage.TheVariants.{Start, Spelling, InPath, Behind, Bang, Compare, Minus, Literal}, Turn.TheVariants.{Stay}}
use Rattle.fm_records_query.{specs.Reader.{word_text, is_mark, marks, goes, next}, proofs.Shown.{so_far, IsCounted, IsLive, Leaves}}
use Rattle.fm_records_query.proofs.LeavingItems.{starts_leaves, spells_leaves, behind_leaves}
use Rattle.fm_records_query.proofs.LeavingConditions.{bang_leaves, compares_leaves, negates_leaves, literal_leaves}

-- a path that goes on
goes_leaves : (is : List ItemSyntax) (cs : List ConditionSyntax) (r : Role) (d : List PathStep) (p : Part) (b : ℕ) (o : Option path.Spot)
    → path.onward (Some (path.spot d p)) b ≡ o → IsCounted is cs (InPath r d p) → IsLive (InPath r d p) → Leaves is cs (InPath r d p) b (goes r o)
goes_leaves is cs r d p b None e at live = tt
goes_leaves is cs r d p b (Some s) e at live = go r at
  where
    ran : path.run (so_far d p ++ b ∷ []) path.start ≡ Some s
    ran = run_append path.reads (so_far d p) (b ∷ []) path.start ∙ ap (λ x. path.onward x b) live ∙ e

    text : so_far d p ++ b ∷ [] ≡ so_far s.done s.part
    text = (path_reading.there_read (so_far d p ++ b ∷ []) s ran).spelled

    there : path.run (so_far s.done s.part) path.start ≡ Some s
    there = ap (λ t. path.run t path.start) (sym text) ∙ ran

    go : (r : Role) → IsCounted is cs (InPath r d p) → Leaves is cs (InPath r d p) b (Stay (InPath r s.done s.part))
    go (OfItem f) at = (refl, append_assoc (word_text (Folding f)) (so_far d p) (b ∷ []) ∙ ap (λ t. word_text (Folding f) ++ t) text, at, there)
    go OfCondition at = (refl, text, at, there)

-- a path that ends
marks_leaves : (is : List ItemSyntax) (cs : List ConditionSyntax) (r : Role) (d : List PathStep) (p : Part) (b : ℕ) (o : Option (List PathStep))
    → path.whole d p ≡ o → IsCounted is cs (InPath r d p) → IsLive (InPath r d p) → Leaves is cs (InPath r d p) b (marks r b o)
marks_leaves is cs r d p b None e at live = tt
marks_leaves is cs (OfItem f) d p b (Some ps) e at live =
    let w = path_accepting.found (so_far d p) d ps p live e in
    cond_both (nat_eq b 41) _ _ (Leaves is cs (InPath (OfItem f) d p) b)
    (λ h. (
      refl,
      simp (eqb-true b 41 h, w.1) (simp (append_assoc, append-nil)),
      at,
      (w.0, omega arith),
    ))
    (λ _. tt)
marks_leaves is cs OfCondition d p b (Some ps) e at live =
    let w = path_accepting.found (so_far d p) d ps p live e in
    let text : (c : ℕ) → nat_eq b c ≡ true → so_far d p ++ b ∷ [] ≡ path_text ps ++ c ∷ [] = λ c h. simp (eqb-true b c h, w.1) in
    cond_both (nat_eq b 61) _ _ (Leaves is cs (InPath OfCondition d p) b) (λ h. (refl, text 61 h, at, w.0)) (λ _.
    cond_both (nat_eq b 60) _ _ (Leaves is cs (InPath OfCondition d p) b) (λ h. (refl, text 60 h, at, w.0)) (λ _.
    cond_both (nat_eq b 62) _ _ (Leaves is cs (InPath OfCondition d p) b) (λ h. (refl, text 62 h, at, w.0)) (λ _.
    cond_both (nat_eq b 33) _ _ (Leaves is cs (InPath OfCondition d p) b) (λ h. (refl, text 33 h, at, w.0)) (λ _. tt))))

-- each byte leaves what the stage after it shows
pub leaves : (is : List ItemSyntax) (cs : List ConditionSyntax) (s : Stage) (b : ℕ) → IsCounted is cs s → IsLive s
    → Leaves is cs s b (next (length is) (length cs) s b)
leaves is cs Start b at live = starts_leaves is cs b at
leaves is cs (Spelling w n) b at live = spells_leaves is cs at w n b live
leaves is cs (InPath r d p) b at live =
    cond_both (is_mark b) (marks r b (path.whole d p)) (goes r (path.onward (Some (path.spot d p)) b)) (Leaves is cs (InPath r d p) b)
    (λ _. marks_leaves is cs r d p b (path.whole d p) refl at live)
    (λ _. goes_leaves is cs r d p b (path.onward (Some (path.spot d p)) b) refl at live)
leaves is cs (Behind i n) b at live = behind_leaves is cs i n b at live.0 live.1
leaves is cs (Bang p) b at live = bang_leaves is cs p b at live
leaves is cs (Compare p o) b at live = compares_leaves is cs p o b at live
leaves is cs (Minus p o) b at live = negates_leaves is cs p o b at live
leaves is cs (Literal p o m n) b at live = literal_leaves is cs p o m n b at.0 live.0 live.1 live.2
