-- What has been read begins some query's text.
use Rattle.std.proofs.Common.{◌≡◌, refl, sym, ap, ℕ, zero, suc, List, [], ◌∷◌, ◌++◌, length, take, drop, arith, ◌∙◌}
use Rattle.std.specs.{Prelude.{codes, decimal, pos, negsuc}, List.{AllByRecursion}}
use Rattle.std.proofs.lemmas.{List.{append_assoc, append-nil, length-append, take-append-drop}, Fmt.{decimal_digit}}
use Rattle.fm_base_lists.proofs.Each.{all_snoc}
use Rattle.fm_path_text.specs.Grammar as path
use Rattle.fm_path_text.proofs.Accepting as path_accepting
use Rattle.fm_path_text.proofs.Language.{shorter}
use Rattle.fm_records_query.specs.declared.{operator.Operator.TheVariants.{Equal, NotEqual}, syntax.ItemSyntax.{ItemSyntax, TheVariants.{Count, Of}}}
use Rattle.fm_records_query.specs.declared.{syntax.ConditionSyntax.{ConditionSyntax}, word.Word.TheVariants.{Counting, Folding}}
use Rattle.fm_records_query.specs.declared.stage.{Role.TheVariants.{OfItem, OfCondition}, Stage.{Stage}}
use Rattle.fm_records_query.specs.declared.stage.Stage.TheVariants.{Start, Spelling, InPath, Behind, Bang, Compare, Minus, Literal}
use Rattle.fm_records_query.specs.Grammar.{syntax, fold_text, item_text, condition_text, operator_text, where_text, query_text, IsItem, IsCondition, IsQuery, Begins}
use Rattle.fm_records_query.specs.Reader.{word_text, where_word, and_word, condition}
use Rattle.fm_records_query.proofs.Shown.{so_far, items_led, conditions_led, led, led_snoc, join_led, IsAtItem, IsAtCondition, HasRead}
use Rattle.fm_records_query.proofs.LeavingConditions.{literal_of}

-- conditions behind where, the last one apart
pub where_led : (cs : List ConditionSyntax) (c : ConditionSyntax)
    → where_text (cs ++ c ∷ []) ≡ codes " where " ++ (led condition_text (codes " and ") cs ++ condition_text c)
where_led [] c = ap (λ t. codes " where " ++ t) (join_led condition_text (codes " and ") [] c)
where_led (d ∷ ds) c = ap (λ t. codes " where " ++ t) (join_led condition_text (codes " and ") (d ∷ ds) c)

-- an item as far as it goes is completed by the rest of it
ends_item : (text own rest : List ℕ) (is : List ItemSyntax) (cs : List ConditionSyntax) (i : ItemSyntax) → text ≡ items_led is ++ own
    → own ++ rest ≡ item_text i → AllByRecursion IsItem is → IsItem i → IsAtItem is cs → Begins text
ends_item text own rest is cs i e w all item at = (
  rest,
  syntax (is ++ i ∷ []) [],
  record {
    items = all_snoc IsItem is i all item;
    some_item = omega (arith, length-append is (i ∷ []));
    few_items = omega (arith, at.few, length-append is (i ∷ []));
    conditions = tt;
    few_conditions = omega arith;
  },
  simp (e, append_assoc, w, join_led item_text (codes ",") is i, append-nil),
)

-- a condition as far as it goes is completed by the rest of it
ends_condition : (text own rest : List ℕ) (is : List ItemSyntax) (cs : List ConditionSyntax) (c : ConditionSyntax) → text ≡ conditions_led is cs ++ own
    → own ++ rest ≡ condition_text c
    → AllByRecursion IsItem is → AllByRecursion IsCondition cs → IsCondition c → IsAtCondition is cs 1 → Begins text
ends_condition text own rest is cs c e w all each one at = (
  rest,
  syntax is (cs ++ c ∷ []),
  record {
    items = all;
    some_item = at.some;
    few_items = at.few_items;
    conditions = all_snoc IsCondition cs c each one;
    few_conditions = omega (arith, at.few, length-append cs (c ∷ []));
  },
  simp (e, append_assoc, w, where_led cs c),
)

-- the condition .=0
abbrev pub least : ConditionSyntax
least = record { path = []; operator = Equal; literal = pos 0 }

least_is : IsCondition least
least_is = record { is_path = record { each = tt; short = omega arith }; is_literal = omega arith }

-- where a condition may begin, a text may go on
may_begin : (text : List ℕ) (is : List ItemSyntax) (cs : List ConditionSyntax) → text ≡ conditions_led is cs → AllByRecursion IsItem is
    → AllByRecursion IsCondition cs → IsAtCondition is cs 1 → Begins text
may_begin text is cs e all each at =
    ends_condition text [] (condition_text least) is cs least (e ∙ sym (append-nil (conditions_led is cs))) refl all each least_is at

-- the text of 0 and of 1
zero_text : decimal 0 ≡ 48 ∷ []
zero_text = decimal_digit 0 (omega arith)

one_text : decimal 1 ≡ 49 ∷ []
one_text = decimal_digit 1 (omega arith)

-- what has been read begins a text
pub can_end : (text : List ℕ) (is : List ItemSyntax) (cs : List ConditionSyntax) (s : Stage) → HasRead text is cs s → Begins text
can_end text is cs Start h = ends_item text [] (item_text Count) is cs Count h.spelled refl h.items tt h.counted
can_end text is cs (Spelling Counting n) h =
    ends_item text (take n (codes "count")) (drop n (codes "count")) is cs Count h.spelled (take-append-drop n (codes "count")) h.items tt h.counted
can_end text is cs (Spelling (Folding f) n) h =
    let w = word_text (Folding f) in
    ends_item text (take n w) (drop n w ++ codes ".)") is cs (Of f []) h.spelled
    (sym (append_assoc (take n w) (drop n w) (codes ".)")) ∙ ap (λ t. t ++ codes ".)") (take-append-drop n w)
    ∙ append_assoc (fold_text f) (codes "(") (codes ".)"))
    h.items (record { each = tt; short = omega arith }) h.counted
can_end text is cs (InPath (OfItem f) d p) h =
    let b = path_accepting.begins (so_far d p) d p h.live in
    ends_item text (word_text (Folding f) ++ so_far d p) (b.0 ++ codes ")") is cs (Of f b.1) h.spelled
    (simp (append_assoc, sym b.3)) h.items b.2 h.counted
can_end text is cs (InPath OfCondition d p) h =
    let b = path_accepting.begins (so_far d p) d p h.live in
    ends_condition text (so_far d p) (b.0 ++ codes "=0") is cs (record { path = b.1; operator = Equal; literal = pos 0 }) h.spelled
    (simp (sym b.3, append_assoc, zero_text)) h.items h.conditions (record { is_path = b.2; is_literal = omega arith }) h.counted
can_end text is cs (Behind i n) h =
    shorter IsQuery query_text text (drop n where_word) (may_begin (text ++ drop n where_word) (is ++ i ∷ []) cs
    (simp (h.spelled, append_assoc, h.counted.no_condition, join_led item_text (codes ",") is i, take-append-drop n where_word))
    (all_snoc IsItem is i h.items h.live.0)
    h.conditions
    (record {
      some = omega (arith, length-append is (i ∷ []));
      few_items = omega (arith, h.counted.few, length-append is (i ∷ []));
      few = omega (arith, ap length h.counted.no_condition);
    }))
can_end text is cs (Bang p) h =
    ends_condition text (path.path_text p ++ codes "!") (codes "=0") is cs (record { path = p; operator = NotEqual; literal = pos 0 }) h.spelled
    (simp (append_assoc, zero_text)) h.items h.conditions (record { is_path = h.live; is_literal = omega arith }) h.counted
can_end text is cs (Compare p o) h =
    ends_condition text (path.path_text p ++ operator_text o) (codes "0") is cs (record { path = p; operator = o; literal = pos 0 }) h.spelled
    (simp (append_assoc, zero_text)) h.items h.conditions (record { is_path = h.live; is_literal = omega arith }) h.counted
can_end text is cs (Minus p o) h =
    ends_condition text (path.path_text p ++ (operator_text o ++ codes "-")) (codes "1") is cs (record { path = p; operator = o; literal = negsuc 0 }) h.spelled
    (simp (append_assoc, one_text)) h.items h.conditions (record { is_path = h.live; is_literal = omega arith }) h.counted
can_end text is cs (Literal p o m zero) h =
    ends_condition text (condition_text (condition p o m) ++ []) [] is cs (condition p o m) h.spelled
    (simp append-nil) h.items h.conditions (record { is_path = h.live.0; is_literal = literal_of m h.live.1 }) h.counted.0
can_end text is cs (Literal p o m (suc n)) h =
    let c = condition p o m in
    shorter IsQuery query_text text (drop (suc n) and_word) (may_begin (text ++ drop (suc n) and_word) is (cs ++ c ∷ [])
    (simp (h.spelled, append_assoc, take-append-drop (suc n) and_word, led_snoc condition_text (codes " and ") cs c))
    h.items
    (all_snoc IsCondition cs c h.conditions (record { is_path = h.live.0; is_literal = literal_of m h.live.1 }))
    (record {
      some = h.counted.0.some;
      few_items = h.counted.0.few_items;
      few = omega (arith, h.counted.1 (omega arith), length-append cs (c ∷ []));
    }))
