-- The two texts of the records that are made are queries over their layout.
use Rattle.std.proofs.Common.{◌≡◌, ℕ, List, [], ◌∷◌, Result, Ok, Err, refl, subst, inl, inr, arith}
use Rattle.std.specs.{Fmt.{digits}, Prelude.{codes, pos, IfErr}}
use Rattle.fm_base.specs.declared.refusal.Refusal.{Refusal, TheVariants.{BadQuery, Memory}}
use Rattle.fm_layout.specs.{Tree.{Tree}, Parts.{IsValue}}
use Rattle.fm_path.specs.Resolution.{IsRefusal, at_step, no_memory, no_value}
use Rattle.fm_path_text.specs.{Grammar.{IsPath}, declared.step.PathStep.{PathStep, TheVariants.{Name}}}
use Rattle.fm_records_query.specs.Grammar.{IsNoText, IsQuery, Syntax, query_text, syntax}
use Rattle.fm_records_query.specs.Parsed.{AreItemsRefused, IsConditionRefused, IsNoQuery, IsSyntaxRefused, at_condition, at_item, at_path, left_open, no_text, refused}
use Rattle.fm_records_query.specs.declared.{fold.Fold.TheVariants.{Greatest, Least, Sum}, operator.Operator.TheVariants.{Equal}}
use Rattle.fm_records_query.specs.declared.syntax.{ConditionSyntax.{ConditionSyntax}, ItemSyntax.{TheVariants.{Count, Of}}}
use Rattle.fm_top_demo.specs.Records.{made_layout}
use Rattle.fm_top.specs.Demos.{IsQueryOver}

-- ---- a text that is a query's

no_text_memory : (text : List ℕ) (q : Syntax) → IsQuery q → text ≡ query_text q → (e : Refusal) → IsNoText text e → e ≡ Memory
no_text_memory text q is spelled (BadQuery at) n = absurd (n.none q is spelled)
no_text_memory text q is spelled Memory n = refl
no_text_memory text q is spelled e n = absurd n

query_over : (text : List ℕ) (t : Tree) (q : Syntax) → IsQuery q → text ≡ query_text q → ((e : Refusal) → IsSyntaxRefused t q e → e ≡ Memory)
    → IsQueryOver text t
query_over text t q is spelled never e (no_text n) = no_text_memory text q is spelled e n
query_over text t q is spelled never e (refused r is_text denied) =
    never e (subst (λ (s : Syntax). IsSyntaxRefused t s e) (is_text.only q is spelled) denied)

-- What a query's text is refused for, where it is a query.
pub only_memory : {A : Type 0} {text : List ℕ} {t : Tree} → (r : Result A Refusal) → IsQueryOver text t → IfErr r (IsNoQuery text t)
    → IfErr r (λ e. e ≡ Memory)
only_memory (Ok x) over none = tt
only_memory (Err e) over none = over e none

-- ---- a path that comes to a value

not_both : {A : Type 0} {x : A} {e : Refusal} → Ok x ≡ Err e → ⊥
not_both both = cc

abbrev Found : Result Tree Refusal → Result Tree Refusal → Type 0
Found r t = r ≡ t

same_value : {value last : Tree} → Found (Ok value) (Ok last) → IsValue value → IsValue last
same_value {value} {last} is h =
    let same : value ≡ last = cc in
    subst IsValue same h

abbrev amount : List PathStep
amount = Name (codes "amount") ∷ []

abbrev id : List PathStep
id = Name (codes "id") ∷ []

abbrev kind : List PathStep
kind = Name (codes "kind") ∷ []

amount_resolves : (e : Refusal) → IsRefusal amount made_layout e → e ≡ Memory
amount_resolves e (at_step f is) = absurd (not_both (is []))
amount_resolves e (no_value x) = absurd (x.no_value (same_value x.ends tt))
amount_resolves e no_memory = refl

id_resolves : (e : Refusal) → IsRefusal id made_layout e → e ≡ Memory
id_resolves e (at_step f is) = absurd (not_both (is []))
id_resolves e (no_value x) = absurd (x.no_value (same_value x.ends tt))
id_resolves e no_memory = refl

kind_resolves : (e : Refusal) → IsRefusal kind made_layout e → e ≡ Memory
kind_resolves e (at_step f is) = absurd (not_both (is []))
kind_resolves e (no_value x) = absurd (x.no_value (same_value x.ends tt))
kind_resolves e no_memory = refl

-- ---- the first query

abbrev first_syntax : Syntax
first_syntax = syntax (Count ∷ Of Sum amount ∷ Of Least amount ∷ Of Greatest amount ∷ []) []

amount_path : IsPath amount
amount_path = record { each = ((refl, (refl, (refl, (refl, (refl, (refl, tt))))), omega arith), tt); short = omega arith }

first_has_text : IsQuery first_syntax
first_has_text = record {
  items = (tt, (amount_path, (amount_path, (amount_path, tt))));
  some_item = omega arith;
  few_items = omega arith;
  conditions = tt;
  few_conditions = omega arith;
}

first_items : (e : Refusal) → AreItemsRefused made_layout first_syntax.items e → e ≡ Memory
first_items e (inl is) = absurd is
first_items e (inr (has, inl is)) = amount_resolves e is
first_items e (inr (has, inr (has_sum, inl is))) = amount_resolves e is
first_items e (inr (has, inr (has_sum, inr (has_least, inl is)))) = amount_resolves e is
first_items e (inr (has, inr (has_sum, inr (has_least, inr (has_greatest, none))))) = absurd none

first_never : (e : Refusal) → IsSyntaxRefused made_layout first_syntax e → e ≡ Memory
first_never e (at_item denied) = first_items e denied
first_never e (at_condition items none) = absurd none

pub first_is_query : IsQueryOver (codes "count,sum(.amount),min(.amount),max(.amount)") made_layout
first_is_query = query_over _ made_layout first_syntax first_has_text refl first_never

-- ---- the second

abbrev second_condition : ConditionSyntax
second_condition = record { path = kind; operator = Equal; literal = pos 3 }

abbrev second_syntax : Syntax
second_syntax = syntax (Count ∷ Of Sum id ∷ []) (second_condition ∷ [])

id_path : IsPath id
id_path = record { each = ((refl, (refl, tt), omega arith), tt); short = omega arith }

kind_path : IsPath kind
kind_path = record { each = ((refl, (refl, (refl, (refl, tt))), omega arith), tt); short = omega arith }

second_has_text : IsQuery second_syntax
second_has_text = record {
  items = (tt, (id_path, tt));
  some_item = omega arith;
  few_items = omega arith;
  conditions = (record { is_path = kind_path; is_literal = omega arith }, tt);
  few_conditions = omega arith;
}

condition_never : (e : Refusal) → IsConditionRefused made_layout second_condition e → e ≡ Memory
condition_never e (at_path x is) = kind_resolves e is
condition_never e (left_open k r resolved open_at) = absurd (cc)

second_items : (e : Refusal) → AreItemsRefused made_layout second_syntax.items e → e ≡ Memory
second_items e (inl is) = absurd is
second_items e (inr (has, inl is)) = id_resolves e is
second_items e (inr (has, inr (has_sum, none))) = absurd none

second_never : (e : Refusal) → IsSyntaxRefused made_layout second_syntax e → e ≡ Memory
second_never e (at_item denied) = second_items e denied
second_never e (at_condition items (inl is)) = condition_never e is
second_never e (at_condition items (inr (has, none))) = absurd none

pub second_is_query : IsQueryOver (codes "count,sum(.id) where .kind=3") made_layout
unfolding digits
second_is_query = query_over _ made_layout second_syntax second_has_text refl second_never
