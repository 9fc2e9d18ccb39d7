-- The loop over the bytes of a query's text.
use Rattle.std.proofs.Common.{◌≡◌, refl, sym, ap, subst, ℕ, ◌+◌, ◌<◌, ◌≤◌, zero, suc, false, if◌then◌else◌, nat_eq, Option, Some, None, List, [], ◌∷◌, ◌++◌, length, take, get_or, arith, ◌∙◌}
use Rattle.std.{specs.{Prelude.{codes}, Option.{IfSome}}, proofs.lemmas.{Bool.Decides.{nat_tests}, List.{append_assoc, append-nil, length-append, take_all}}}
use Rattle.fm_base_lists.proofs.Each.{all_snoc}
use Rattle.fm_path_text.{specs.declared.{step.PathStep.{PathStep}, part.Part.{Part}}, proofs.Language.{IsReader, only, leaves_at, leaves_behind}}
use Rattle.fm_path_text.proofs.Machine.{run_keeps, run_more}
use Rattle.fm_path_text.specs.Reader as path
use Rattle.fm_path_text.proofs.Parsing as path_parsing
use Rattle.fm_path_text.specs.Machine as machine
use Rattle.fm_records_query.specs.declared.{syntax.{ItemSyntax.{ItemSyntax}, ConditionSyntax.{ConditionSyntax}}, stage.Role.TheVariants.{OfCondition}}
use Rattle.fm_records_query.specs.declared.stage.{Stage.{Stage, TheVariants.{Spelling, InPath, Behind, Bang, Compare, Minus, Literal}}, Turn.{Turn}}
use Rattle.fm_records_query.specs.declared.stage.Turn.TheVariants.{Dead, Stay, NextItem, NextCondition}
use Rattle.fm_records_query.specs.Grammar.{most_parts, Syntax, syntax, item_text, query_text, IsItem, IsCondition, IsQuery, IsTextOf, BeginsUpTo}
use Rattle.fm_records_query.specs.Reader.{condition, next, Spot, spot, moved, reads, run, start, whole, whole_at, IsReady, IsReadySpot}
use Rattle.fm_records_query.proofs.{Shown.{so_far, join_led, base, own, IsCounted, IsLive, HasRead, HasReadTo, Leaves}, Leaving.{leaves}}
use Rattle.fm_records_query.proofs.{LeavingConditions.{literal_of}, Completing.{where_led, can_end}, Accepting.{accepts}}

-- what was read after one more turn
after : (text : List ℕ) (is : List ItemSyntax) (cs : List ConditionSyntax) (s : Stage) (b : ℕ) (m : Turn) → HasRead text is cs s → Leaves is cs s b m
    → IfSome (moved is cs m) (HasReadTo (text ++ b ∷ []))
after text is cs s b Dead h l = tt
after text is cs s b (Stay t) h l = record {
  spelled = simp (h.spelled, append_assoc, l.1, l.0);
  items = h.items;
  conditions = h.conditions;
  counted = l.2;
  live = l.3;
}
after text is cs s b (NextItem i t) h l = record {
  spelled = ap (λ x. x ++ b ∷ []) h.spelled ∙ append_assoc (base is cs s) (own s) (b ∷ []) ∙ l.0;
  items = all_snoc IsItem is i h.items l.1;
  conditions = h.conditions;
  counted = l.2;
  live = l.3;
}
after text is cs s b (NextCondition c t) h l = record {
  spelled = ap (λ x. x ++ b ∷ []) h.spelled ∙ append_assoc (base is cs s) (own s) (b ∷ []) ∙ l.0;
  items = h.items;
  conditions = all_snoc IsCondition cs c h.conditions l.1;
  counted = l.2;
  live = l.3;
}

-- what the reader has read
has_read : (bs text : List ℕ) (o : Option Spot) → IfSome o (HasReadTo text) → IfSome (run bs o) (HasReadTo (text ++ bs))
has_read = run_keeps reads HasReadTo (λ text s b h.
    after text s.items s.conditions s.stage b (next (length s.items) (length s.conditions) s.stage b) h
    (leaves s.items s.conditions s.stage b h.counted h.live))

-- before the first byte nothing was read
read_nothing : IfSome start (HasReadTo [])
read_nothing = record { spelled = refl; items = tt; conditions = tt; counted = record { few = omega arith; no_condition = refl }; live = tt }

-- where the reader stands, it has read what it shows
there_read : (text : List ℕ) (s : Spot) → run text start ≡ Some s → HasRead text s.items s.conditions s.stage
there_read text s e = subst (λ o. IfSome o (HasReadTo text)) e (has_read text [] start read_nothing)

some_of : {A : Type 0} {x y : A} → Some x ≡ Some y → x ≡ y
some_of e = cc

not_zero : (n : ℕ) → nat_eq (suc n) 0 ≡ false
not_zero n = grind (arith, nat_tests)

-- a text that may end is that of the query which was read
is_whole : (text : List ℕ) (is : List ItemSyntax) (cs : List ConditionSyntax) (s : Stage) (q : Syntax) → HasRead text is cs s → whole_at is cs s ≡ Some q
    → IsQuery q × (text ≡ query_text q)
is_whole text is cs (Behind i zero) q h e =
    subst (λ q. IsQuery q × (text ≡ query_text q)) (some_of e) (
      record {
        items = all_snoc IsItem is i h.items h.live.0;
        some_item = omega (arith, length-append is (i ∷ []));
        few_items = omega (arith, h.counted.few, length-append is (i ∷ []));
        conditions = h.conditions;
        few_conditions = omega (arith, ap length h.counted.no_condition);
      },
      simp (h.spelled, h.counted.no_condition, join_led item_text (codes ",") is i, append-nil),
    )
is_whole text is cs (Behind i (suc n)) q h e =
    let f : None ≡ Some q = sym (ap (λ c. if c then Some (syntax (is ++ i ∷ []) cs) else None) (not_zero n)) ∙ e in
    absurd (cc)
is_whole text is cs (Literal p o m zero) q h e =
    let c = condition p o m in
    subst (λ q. IsQuery q × (text ≡ query_text q)) (some_of e) (
      record {
        items = h.items;
        some_item = h.counted.0.some;
        few_items = h.counted.0.few_items;
        conditions = all_snoc IsCondition cs c h.conditions (record { is_path = h.live.0; is_literal = literal_of m h.live.1 });
        few_conditions = omega (arith, h.counted.0.few, length-append cs (c ∷ []));
      },
      simp (h.spelled, append_assoc, append-nil, where_led cs c),
    )
is_whole text is cs (Literal p o m (suc n)) q h e =
    let f : None ≡ Some q = sym (ap (λ c. if c then Some (syntax is (cs ++ condition p o m ∷ [])) else None) (not_zero n)) ∙ e in
    absurd (cc)
is_whole text is cs s q h e = absurd (cc)

-- it reads the language of queries
reader : IsReader IsQuery query_text reads start whole
reader = record { accepts = λ q. accepts q.items q.conditions }

-- a path that is read may be read on
path_ready : (d : List PathStep) (p : Part) → path.run (so_far d p) path.start ≡ Some (path.spot d p) → (length d ≤ 64) × path.IsBounded p
path_ready d p e =
    let t = so_far d p in
    let r = path_parsing.stays t (length t) d d p p (ap (λ x. path.run x path.start) (take_all (length t + 1) t (omega arith)) ∙ e) refl refl in
    (r.short, r.bounded)

-- wherever the reader stands, it may read on
ready : (text : List ℕ) (is : List ItemSyntax) (cs : List ConditionSyntax) (s : Stage) → HasRead text is cs s → IsReadySpot (spot is cs s)
ready text is cs s h = let n = few is cs s h.counted in record { items = n.0; conditions = n.1; stage = at s h.live }
  where
    few : (is : List ItemSyntax) (cs : List ConditionSyntax) (s : Stage) → IsCounted is cs s → (length is ≤ most_parts) × (length cs ≤ most_parts)
    few is cs (InPath OfCondition d p) c = (c.few_items, omega (arith, c.few))
    few is cs (Bang p) c = (c.few_items, omega (arith, c.few))
    few is cs (Compare p o) c = (c.few_items, omega (arith, c.few))
    few is cs (Minus p o) c = (c.few_items, omega (arith, c.few))
    few is cs (Literal p o m n) c = (c.0.few_items, omega (arith, c.0.few))
    few is cs s c = (omega (arith, c.few), omega (arith, ap length c.no_condition))

    at : (s : Stage) → IsLive s → IsReady s
    at (Spelling w n) l = l
    at (InPath r d p) l = path_ready d p l
    at (Behind i n) l = l.1
    at (Literal p o m n) l = (l.1, l.2)
    at s l = tt

-- what the loop keeps
pub record IsReading (text : List ℕ) (i : ℕ) (s : Spot) : Type 0 where
  pub ready : IsReadySpot s
  pub there : run (take i text) start ≡ Some s

reading : (text : List ℕ) (i : ℕ) (s : Spot) → run (take i text) start ≡ Some s → IsReading text i s
reading text i s e = record { ready = ready (take i text) s.items s.conditions s.stage (there_read (take i text) s e); there = e }

-- before the first byte
pub begun : (text : List ℕ) (s : Spot) → Some s ≡ start → IsReading text 0 s
begun text s e = reading text 0 s (sym e)

-- where the next byte leads
goes_on : (text : List ℕ) (i : ℕ) (s : Spot) (b : ℕ) → IsReading text i s → i < length text → b ≡ get_or text i 0
    → run (take (i + 1) text) start ≡ reads s b
goes_on text i s b h lt e =
    run_more reads text i start lt ∙ ap (λ o. machine.onward reads o (get_or text i 0)) h.there ∙ ap (reads s) (sym e)

-- the loop after a byte
pub stays : (text : List ℕ) (i : ℕ) (s t : Spot) (b : ℕ) → IsReading text i s → i < length text → b ≡ get_or text i 0 → Some t ≡ reads s b
    → IsReading text (i + 1) t
stays text i s t b h lt e m = reading text (i + 1) t (goes_on text i s b h lt e ∙ sym m)

-- where the reader dies the longest prefix ends
pub ends_at : (text : List ℕ) (i : ℕ) (s : Spot) (b : ℕ) → IsReading text i s → i < length text → b ≡ get_or text i 0 → None ≡ reads s b
    → BeginsUpTo i text
ends_at text i s b h lt e m =
    leaves_at reader text i lt (can_end (take i text) s.items s.conditions s.stage (there_read (take i text) s h.there)) (goes_on text i s b h lt e ∙ sym m)

-- after the last byte the whole text was read
at_end : (text : List ℕ) (i : ℕ) (s : Spot) → IsReading text i s → length text ≤ i → run text start ≡ Some s
at_end text i s h le = ap (λ t. run t start) (sym (take_all i text le)) ∙ h.there

-- a text read whole is that of the query which was read
pub is_found : (text : List ℕ) (i : ℕ) (s : Spot) (q : Syntax) → IsReading text i s → length text ≤ i → Some q ≡ whole s → IsTextOf text q
is_found text i s q h le w =
    let e = at_end text i s h le in
    let f = is_whole text s.items s.conditions s.stage q (there_read text s e) (sym w) in
    record { is_query = f.0; spelled = f.1; only = λ other. only reader text s q other e (sym w) }

-- a text that ends too early begins a query's text as far as it goes
pub ends_all : (text : List ℕ) (i : ℕ) (s : Spot) → IsReading text i s → length text ≤ i → None ≡ whole s → BeginsUpTo (length text) text
ends_all text i s h le w =
    let e = at_end text i s h le in
    leaves_behind reader text s (can_end text s.items s.conditions s.stage (there_read text s e)) e (sym w)
