-- One byte of an item, or behind it, leaves what the next stage shows.
use Rattle.std.proofs.Common.{◌≡◌, refl, sym, ap, ℕ, ◌+◌, ◌<◌, true, ◌&&◌, nat_eq, nat_lt, List, [], ◌∷◌, ◌++◌, length, take, get_or, arith, ◌∙◌}
use Rattle.std.{specs.Prelude.{codes}, proofs.lemmas.{List.{append_assoc, append-nil, length-append}, Bool.{eqb-true, ltb-true, and_parts, cond_both}}}
use Rattle.fm_path_text.specs.declared.part.Part.TheVariants.{Between}
use Rattle.fm_records_query.specs.declared.{fold.Fold.TheVariants.{Least}, syntax.ItemSyntax.{ItemSyntax, TheVariants.{Count}}}
use Rattle.fm_records_query.specs.declared.{syntax.ConditionSyntax.{ConditionSyntax}, word.Word.{Word, TheVariants.{Counting, Folding}}}
use Rattle.fm_records_query.specs.declared.stage.{Role.TheVariants.{OfItem}, Stage.TheVariants.{Start, Spelling, InPath, Behind}, Turn.TheVariants.{Stay}}
use Rattle.fm_records_query.specs.{Grammar.{item_text, IsItem}, Reader.{word_text, where_word, starts, spelled, turns, spells, behind}}
use Rattle.fm_records_query.proofs.Shown.{led_snoc, join_led, IsAtItem, Leaves, longer_take, whole_take, below}

-- the first byte of an item
pub starts_leaves : (is : List ItemSyntax) (cs : List ConditionSyntax) (b : ℕ) → IsAtItem is cs → Leaves is cs Start b (starts b)
starts_leaves is cs b at =
    cond_both (nat_eq b 99) _ _ (Leaves is cs Start b) (λ h. (refl, ap (λ x. x ∷ []) (eqb-true b 99 h), at, omega arith)) (λ _.
    cond_both (nat_eq b 115) _ _ (Leaves is cs Start b) (λ h. (refl, ap (λ x. x ∷ []) (eqb-true b 115 h), at, omega arith)) (λ _.
    cond_both (nat_eq b 109) _ _ (Leaves is cs Start b) (λ h. (refl, ap (λ x. x ∷ []) (eqb-true b 109 h), at, omega arith)) (λ _.
    cond_both (nat_eq b 108) _ _ (Leaves is cs Start b) (λ h. (refl, ap (λ x. x ∷ []) (eqb-true b 108 h), at, omega arith)) (λ _. tt))))

module _ (is : List ItemSyntax) (cs : List ConditionSyntax) (at : IsAtItem is cs) where
  -- a byte of a word
  spelled_leaves : (w : Word) (n b : ℕ) → n < length (word_text w) → nat_eq (get_or (word_text w) n 0) b ≡ true
      → Leaves is cs (Spelling w n) b (Stay (spelled w (n + 1)))
  spelled_leaves Counting n b lt h =
      cond_both (nat_eq (n + 1) 5) (Behind Count 0) (Spelling Counting (n + 1)) (λ t. Leaves is cs (Spelling Counting n) b (Stay t))
      (λ e. (refl, whole_take (codes "count") n b lt h (eqb-true (n + 1) 5 e), at, (tt, omega arith)))
      (λ e. (refl, longer_take (codes "count") n b lt h, at, below (n + 1) 5 (omega arith) e))
  spelled_leaves (Folding f) n b lt h =
      cond_both (nat_eq (n + 1) (length (word_text (Folding f)))) (InPath (OfItem f) [] Between) (Spelling (Folding f) (n + 1))
      (λ t. Leaves is cs (Spelling (Folding f) n) b (Stay t))
      (λ e. (refl, whole_take (word_text (Folding f)) n b lt h (eqb-true (n + 1) _ e) ∙ sym (append-nil (word_text (Folding f))), at, refl))
      (λ e. (refl, longer_take (word_text (Folding f)) n b lt h, at, below (n + 1) (length (word_text (Folding f))) (omega arith) e))

  -- a byte of the other word that begins so
  turns_leaves : (w : Word) (n b : ℕ) → Leaves is cs (Spelling w n) b (turns w n b)
  turns_leaves (Folding Least) n b =
      cond_both (nat_eq n 1 && nat_eq b 97) _ _ (Leaves is cs (Spelling (Folding Least) n) b)
      (λ h.
      let q = and_parts (nat_eq n 1) (nat_eq b 97) h in
      (refl, ap (λ k. take k (codes "min(") ++ b ∷ []) (eqb-true n 1 q.0) ∙ ap (λ x. 109 ∷ x ∷ []) (eqb-true b 97 q.1), at, omega arith))
      (λ _. tt)
  turns_leaves w n b = tt

  -- a byte of an item's word
  pub spells_leaves : (w : Word) (n b : ℕ) → n < length (word_text w) → Leaves is cs (Spelling w n) b (spells w n b)
  spells_leaves w n b lt =
      cond_both (nat_eq (get_or (word_text w) n 0) b) (Stay (spelled w (n + 1))) (turns w n b) (Leaves is cs (Spelling w n) b)
      (λ h. spelled_leaves w n b lt h) (λ _. turns_leaves w n b)

-- a byte behind a whole item
pub behind_leaves : (is : List ItemSyntax) (cs : List ConditionSyntax) (i : ItemSyntax) (n b : ℕ) → IsAtItem is cs → IsItem i → n < 7
    → Leaves is cs (Behind i n) b (behind (length is) i n b)
behind_leaves is cs i n b at item lt =
    cond_both (nat_eq n 0 && nat_eq b 44) _ _ (Leaves is cs (Behind i n) b)
    (λ h. cond_both (nat_lt (length is + 1) 16) _ _ (Leaves is cs (Behind i n) b)
    (λ few.
    let q = and_parts (nat_eq n 0) (nat_eq b 44) h in (
      simp (eqb-true n 0 q.0, eqb-true b 44 q.1, append-nil, led_snoc item_text (codes ",") is i),
      item,
      record { few = omega (arith, ltb-true (length is + 1) 16 few, length-append is (i ∷ [])); no_condition = at.no_condition },
      tt,
    ))
    (λ _. tt))
    (λ _. cond_both (nat_eq (get_or where_word n 0) b) _ _ (Leaves is cs (Behind i n) b)
    (λ h. cond_both (nat_eq n 6) _ _ (Leaves is cs (Behind i n) b)
    (λ six. (
      simp (append_assoc, append-nil, whole_take where_word n b lt h (omega (arith, eqb-true n 6 six)), join_led item_text (codes ",") is i, at.no_condition),
      item,
      record {
        some = omega (arith, length-append is (i ∷ []));
        few_items = omega (arith, at.few, length-append is (i ∷ []));
        few = omega (arith, ap length at.no_condition);
      },
      refl,
    ))
    (λ six. (
      refl,
      simp (append_assoc, longer_take where_word n b lt h),
      at,
      (item, omega (arith, below n 6 (omega arith) six)),
    )))
    (λ _. tt))
