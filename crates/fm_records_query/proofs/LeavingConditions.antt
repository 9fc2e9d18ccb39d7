-- One byte of a condition behind its path leaves what the next stage shows.
use Rattle.std.proofs.Common.{◌≡◌, refl, sym, ap, subst, ℕ, ◌+◌, ◌-◌, ◌*◌, ◌^◌, ◌<◌, zero, suc, true, false, ◌&&◌, not, if◌then◌else◌, nat_eq, nat_lt, nat_le, None, List, [], ◌∷◌, ◌++◌, length, get_or, arith, ◌∙◌}
use Rattle.std.{specs.{Prelude.{codes, decimal, pos, neg_ℤ}, Fmt.{signed_decimal}}, proofs.lemmas.Bool.Decides.{nat_tests}}
use Rattle.std.proofs.lemmas.{List.{append_assoc, append-nil, length-append}, Fmt.{decimal_digit}, Bool.{eqb-true, ltb-true, leb-true, and_parts, cond_both}}
use Rattle.fm_layout.specs.Name.{is_digit}
use Rattle.fm_path_text.{specs.{declared.step.PathStep.{PathStep}, Grammar.{path_text, IsPath}}, proofs.Moves.{digit_is, decimal_more, minus_text}}
use Rattle.fm_records_query.specs.declared.{operator.Operator.{Operator, TheVariants.{NotEqual, Below, Above}}, syntax.ItemSyntax.{ItemSyntax}}
use Rattle.fm_records_query.specs.declared.{syntax.ConditionSyntax.{ConditionSyntax}, number.Number.{Number, TheVariants.{Up, Down}}}
use Rattle.fm_records_query.specs.declared.stage.{Stage.TheVariants.{Bang, Compare, Minus, Literal}, Turn.TheVariants.{Dead, Stay}}
use Rattle.fm_records_query.specs.Grammar.{condition_text, operator_text, IsLiteral}
use Rattle.fm_records_query.specs.Reader.{and_word, or_equal, compares, negates, value_of, longer, counts, condition, in_literal, IsNumber}
use Rattle.fm_records_query.proofs.Shown.{led_snoc, IsAtCondition, Leaves, longer_take, whole_take, below}

-- = behind !
pub bang_leaves : (is : List ItemSyntax) (cs : List ConditionSyntax) (p : List PathStep) (b : ℕ) → IsAtCondition is cs 1 → IsPath p
    → Leaves is cs (Bang p) b (if nat_eq b 61 then Stay (Compare p NotEqual) else Dead)
bang_leaves is cs p b at h = cond_both (nat_eq b 61) _ _ (Leaves is cs (Bang p) b) (λ e.
    (refl, simp (append_assoc, eqb-true b 61 e), at, h)) (λ _. tt)

-- = behind < or >
equal_leaves : (is : List ItemSyntax) (cs : List ConditionSyntax) (p : List PathStep) (o : Operator) (b : ℕ) → IsAtCondition is cs 1 → IsPath p → b ≡ 61
    → Leaves is cs (Compare p o) b (or_equal p o)
equal_leaves is cs p Below b at h e = (refl, simp (append_assoc, e), at, h)
equal_leaves is cs p Above b at h e = (refl, simp (append_assoc, e), at, h)
equal_leaves is cs p o b at h e = tt

-- the text of one digit
digit_text : (b : ℕ) → is_digit b ≡ true → b ∷ [] ≡ decimal (b - 48)
digit_text b h = let d = digit_is b h in ap (λ x. x ∷ []) d.0 ∙ sym (decimal_digit (b - 48) d.1)

module _ (is : List ItemSyntax) (cs : List ConditionSyntax) (p : List PathStep) (o : Operator) (b : ℕ) (at : IsAtCondition is cs 1) (h : IsPath p) where
  -- a byte behind an operator
  pub compares_leaves : Leaves is cs (Compare p o) b (compares p o b)
  compares_leaves =
      cond_both (nat_eq b 61) _ _ (Leaves is cs (Compare p o) b) (λ e. equal_leaves is cs p o b at h (eqb-true b 61 e)) (λ _.
      cond_both (nat_eq b 45) _ _ (Leaves is cs (Compare p o) b) (λ e.
      (refl, simp (append_assoc, eqb-true b 45 e), at, h)) (λ _.
      cond_both (is_digit b) _ _ (Leaves is cs (Compare p o) b) (λ e. (
        refl,
        simp (append_assoc, append-nil, digit_text b e),
        (at, λ lt. absurd (omega arith)),
        (h, omega (arith, (digit_is b e).1), omega arith),
      )) (λ _. tt)))

  -- a byte behind a minus
  pub negates_leaves : Leaves is cs (Minus p o) b (negates p o b)
  negates_leaves = cond_both (is_digit b && not (nat_eq b 48)) _ _ (Leaves is cs (Minus p o) b) (λ e.
      let q = and_parts (is_digit b) (not (nat_eq b 48)) e in
      let gt = above b q.0 q.1 in (
        refl,
        simp (append_assoc, append-nil, digit_text b q.0, minus_text (b - 48) gt),
        (at, λ lt. absurd (omega arith)),
        (h, (gt, omega (arith, (digit_is b q.0).1)), omega arith),
      )) (λ _. tt)
    where
      above : (b : ℕ) → is_digit b ≡ true → not (nat_eq b 48) ≡ true → 0 < b - 48
      above b h g = grind (arith, nat_tests)

-- a condition with one more byte of its number
grown : (p : List PathStep) (o : Operator) (xs ys : List ℕ) (b : ℕ) → xs ++ b ∷ [] ≡ ys
    → ((path_text p ++ (operator_text o ++ xs)) ++ []) ++ b ∷ [] ≡ (path_text p ++ (operator_text o ++ ys)) ++ []
grown p o xs ys b e = simp (append_assoc, append-nil, e)

-- one more digit of a number
counts_leaves : (is : List ItemSyntax) (cs : List ConditionSyntax) (p : List PathStep) (o : Operator) (m : Number) (b : ℕ) → IsAtCondition is cs 1 → IsPath p
    → IsNumber m → is_digit b ≡ true
    → Leaves is cs (Literal p o m 0) b (counts p o (longer m (b - 48)))
counts_leaves is cs p o (Up n) b at h num e =
    let d = digit_is b e in
    cond_both (nat_eq n 0) None _ (λ x. Leaves is cs (Literal p o (Up n) 0) b (counts p o x)) (λ _. tt) (λ some.
    cond_both (nat_lt (10 * n + (b - 48)) (2 ^ 63)) _ _ (λ x. Leaves is cs (Literal p o (Up n) 0) b (counts p o x)) (λ lt.
    let small = ltb-true (10 * n + (b - 48)) (2 ^ 63) lt in (
      refl,
      grown p o (decimal n) (decimal (10 * n + (b - 48))) b
          (ap (λ x. decimal n ++ x ∷ []) d.0 ∙ sym (decimal_more n (b - 48) (nonzero n some) d.1 (omega arith))),
      (at, λ lt. absurd (omega arith)),
      (h, small, omega arith),
    )) (λ _. tt))
  where
    nonzero : (n : ℕ) → nat_eq n 0 ≡ false → 0 < n
    nonzero n h = grind (arith, nat_tests)
counts_leaves is cs p o (Down n) b at h num e =
    let d = digit_is b e in
    cond_both (nat_le (10 * n + (b - 48)) (2 ^ 63)) _ _ (λ x. Leaves is cs (Literal p o (Down n) 0) b (counts p o x)) (λ le.
    let small = leb-true (10 * n + (b - 48)) (2 ^ 63) le in (
      refl,
      grown p o (signed_decimal (neg_ℤ (pos n))) (signed_decimal (neg_ℤ (pos (10 * n + (b - 48))))) b
          (ap (λ t. t ++ b ∷ []) (minus_text n num.0) ∙ ap (λ x. 45 ∷ decimal n ++ x ∷ []) d.0
          ∙ ap (λ t. 45 ∷ t) (sym (decimal_more n (b - 48) num.0 d.1 small)) ∙ sym (minus_text (10 * n + (b - 48)) (omega (arith, num.0)))),
      (at, λ lt. absurd (omega arith)),
      (h, (omega (arith, num.0), small), omega arith),
    )) (λ _. tt)

-- a number that was read is one of a literal
pub literal_of : (m : Number) → IsNumber m → IsLiteral (value_of m)
literal_of (Up n) h = h
literal_of (Down zero) h = absurd (omega (arith, h.0))
literal_of (Down (suc n)) h = omega (arith, h.1)

-- a byte in or behind a number
pub literal_leaves : (is : List ItemSyntax) (cs : List ConditionSyntax) (p : List PathStep) (o : Operator) (m : Number) (n b : ℕ) → IsAtCondition is cs 1
    → IsPath p → IsNumber m → n < 5
    → Leaves is cs (Literal p o m n) b (in_literal (length cs) p o m n b)
literal_leaves is cs p o m n b at h num lt =
    cond_both (nat_eq n 0 && is_digit b) _ _ (Leaves is cs (Literal p o m n) b)
    (λ e.
    let q = and_parts (nat_eq n 0) (is_digit b) e in
    subst (λ k. Leaves is cs (Literal p o m k) b (counts p o (longer m (b - 48)))) (sym (eqb-true n 0 q.0)) (counts_leaves is cs p o m b at h num q.1))
    (λ _. cond_both (nat_eq (get_or and_word n 0) b && nat_lt (length cs + 1) 16) _ _ (Leaves is cs (Literal p o m n) b)
    (λ e.
    let q = and_parts (nat_eq (get_or and_word n 0) b) (nat_lt (length cs + 1) 16) e in
    let room = ltb-true (length cs + 1) 16 q.1 in
    cond_both (nat_eq n 4) _ _ (Leaves is cs (Literal p o m n) b)
    (λ four. (
      simp (append_assoc, append-nil, whole_take and_word n b lt q.0 (omega (arith, eqb-true n 4 four)))
          (simp (led_snoc condition_text (codes " and ") cs (condition p o m), append_assoc)),
      record { is_path = h; is_literal = literal_of m num },
      record { some = at.some; few_items = at.few_items; few = omega (arith, room, length-append cs (condition p o m ∷ [])) },
      refl,
    ))
    (λ four. (
      refl,
      simp (append_assoc, longer_take and_word n b lt q.0),
      (at, λ _. omega (arith, room)),
      (h, num, omega (arith, below n 4 (omega arith) four)),
    )))
    (λ _. tt))
