-- A text has one plan over a layout, and one that has a plan isn't refused.
use Rattle.std.{proofs.Common.{◌≡◌, ◌≢◌, ℕ, ℤ, ◌+◌, ◌-◌, ◌^◌, List, [], ◌∷◌, Result, Ok, Err, refl, sym, ap, subst, ◌∙◌, inl, inr}, specs.Prelude.{min}}
use Rattle.std.specs.List.{AllByRecursion, AllZip}
use Rattle.fm_base.specs.declared.refusal.Refusal.{Refusal, TheVariants.{Memory}}
use Rattle.fm_layout.specs.{Tree.{Tree, Value}, Parts.{IsValue}}
use Rattle.fm_path_text.specs.declared.step.PathStep.{PathStep}
use Rattle.fm_path_text.proofs.Language as language
use Rattle.fm_path_meaning.specs.{Follow.{Lead, Part, Open, lead, step_at, end_at, after, before, ◌>>=◌, follow_by}, Places.{Step}, Walk.{Walk}}
use Rattle.fm_path_meaning.specs.Found.{end_from}
use Rattle.fm_lanes.specs.declared.{order.Order.{Order}, value_kind.ValueKind.{ValueKind}}
use Rattle.fm_path.specs.declared.value_spec.ValueSpec.{ValueSpec}
use Rattle.fm_path.specs.Resolution.{Resolution, resolution, IsSpecOf, IsResolved, IsRefusal, at_step, no_value, no_memory}
use Rattle.fm_records_query.specs.declared.{operator.Operator.{Operator}, syntax.{ItemSyntax.{ItemSyntax}, ConditionSyntax.{ConditionSyntax}}}
use Rattle.fm_records_query.specs.declared.{item.{Asked.{Asked}, Item.{Item}}, condition.Condition.{Condition}}
use Rattle.fm_records_query.specs.{Grammar.{Syntax, IsQuery, query_text, IsTextOf, IsNoText}, Plan.{Plan, plan}}
use Rattle.fm_records_query.specs.Parsed.{IsAskedOf, IsItemOf, IsConditionOf, IsPlanOf, IsItemRefused, IsConditionRefused, at_path, left_open, IsFirstRefused, IsItemAdmitted, IsConditionAdmitted, IsSyntaxRefused, at_item, at_condition, IsParsed, IsNoQuery, no_text, refused}
use Rattle.fm_records_query.proofs.Plans.{all_admitted}
use Rattle.fm_records_query.specs.declared.syntax.ItemSyntax.TheVariants as syntax
use Rattle.fm_records_query.specs.declared.item.Asked.TheVariants as asked

-- ---- one plan

same_ok : {A : Type 0} (r : Result A Refusal) (x y : A) → r ≡ Ok x → r ≡ Ok y → x ≡ y
same_ok r x y a b = cc

abbrev spec : ValueKind → Order → ℕ → ValueSpec
spec kind order alignment = record { kind = kind; order = order; alignment = alignment }

-- what a value layout is accessed as
same_spec : (last : Tree) (v w : ValueSpec) → IsSpecOf last v → IsSpecOf last w → v ≡ w
same_spec (Value k o l) v w a b =
    let same : spec v.kind v.order v.alignment ≡ spec w.kind w.order w.alignment = cc in same
same_spec last v w a b = absurd a

-- what a path is resolved to
one_resolution : (path : List PathStep) (t : Tree) (r s : Resolution) → IsResolved path t r → IsResolved path t s → r ≡ s
one_resolution path t r s a b =
    let walk = same_ok _ _ _ a.leads.walked b.leads.walked in
    let last : a.last ≡ b.last = same_ok _ _ _ a.ends b.ends in
    let offset : r.offset ≡ s.offset = a.leads.kept ∙ ap (λ (w : Walk). min w.offset (2 ^ 64 - 1)) walk ∙ sym b.leads.kept in
    let dims : r.dims ≡ s.dims = ap (λ (w : Walk). w.dims) walk in
    let value : r.value ≡ s.value = same_spec b.last r.value s.value (subst (λ (x : Tree). IsSpecOf x r.value) last a.value) b.value in
    let same : resolution r.offset r.dims r.value r.root_size r.root_alignment ≡ resolution s.offset s.dims s.value s.root_size s.root_alignment = cc in
    same

one_asked : (t : Tree) (s : ItemSyntax) (a b : Asked) → IsAskedOf t s a → IsAskedOf t s b → a ≡ b
one_asked t syntax.Count a b is_a is_b = is_a ∙ sym is_b
one_asked t (syntax.Of fold path) a b is_a is_b =
    is_a.2 ∙ ap (asked.Of fold) (one_resolution path t is_a.0 is_b.0 is_a.1 is_b.1) ∙ sym is_b.2

abbrev item : List ℕ → Asked → Item
item text asked = record { text = text; asked = asked }

one_item : (t : Tree) (s : ItemSyntax) (a b : Item) → IsItemOf t s a → IsItemOf t s b → a ≡ b
one_item t s a b is_a is_b =
    let asked = one_asked t s a.asked b.asked is_a.asked is_b.asked in
    let same : item a.text a.asked ≡ item b.text b.asked = cc in same

abbrev condition : List ℕ → Resolution → Operator → ℤ → Condition
condition text path operator literal = record { text = text; path = path; operator = operator; literal = literal }

one_condition : (t : Tree) (s : ConditionSyntax) (a b : Condition) → IsConditionOf t s a → IsConditionOf t s b → a ≡ b
one_condition t s a b is_a is_b =
    let path = one_resolution s.path t a.path b.path is_a.path is_b.path in
    let same : condition a.text a.path a.operator a.literal ≡ condition b.text b.path b.operator b.literal = cc in same

-- where each comes to one thing, all come to one list
one_each : {A B : Type 0} (R : A → B → Type 0) → ((x : A) (y z : B) → R x y → R x z → y ≡ z) → (xs : List A) (ys zs : List B) → AllZip R xs ys
    → AllZip R xs zs → ys ≡ zs
one_each R one [] [] [] a b = refl
one_each R one (x ∷ xs) (y ∷ ys) (z ∷ zs) a b = let first = one x y z a.0 b.0 in let rest = one_each R one xs ys zs a.1 b.1 in cc
one_each R one [] [] (z ∷ zs) a b = absurd b
one_each R one (x ∷ xs) (y ∷ ys) [] a b = absurd b
one_each R one xs ys zs a b = absurd a

pub one_plan_of : (t : Tree) (q : Syntax) (p r : Plan) → IsPlanOf t q p → IsPlanOf t q r → p ≡ r
one_plan_of t q p r a b =
    let items = one_each (IsItemOf t) (one_item t) q.items p.items r.items a.items b.items in
    let conditions = one_each (IsConditionOf t) (one_condition t) q.conditions p.conditions r.conditions a.conditions b.conditions in
    let same : plan p.size p.alignment p.items p.conditions ≡ plan r.size r.alignment r.items r.conditions = cc in same

-- the text is that of one query
pub one_syntax : (text : List ℕ) (q r : Syntax) → IsTextOf text q → IsTextOf text r → q ≡ r
one_syntax text q r a b = a.only r b.is_query b.spelled

pub one_plan : (text : List ℕ) (t : Tree) (p r : Plan) → IsParsed text t p → IsParsed text t r → p ≡ r
one_plan text t p r a b =
    let same = one_syntax text a.syntax b.syntax a.is_text b.is_text in
    one_plan_of t b.syntax p r (subst (λ (q : Syntax). IsPlanOf t q p) same a.is_plan) b.is_plan

-- ---- a plan, or a refusal

no_before : (s : Step) (r : Result (List Step) Refusal) (e : Refusal) → before s r ≡ Err e → r ≡ Err e
no_before s (Ok ss) e is = absurd (cc)
no_before s (Err x) e is = is

-- one step, and then the rest
step_follows : (r : Result Lead Refusal) (ps : List PathStep) (k : ℕ) (u : Tree) (e : Refusal)
    → ((v : Tree) → end_from ps (k + 1) v ≡ Ok u → follow_by lead ps (k + 1) v [] ≡ Err e → ⊥)
    → (r >>= λ l. end_from ps (k + 1) (end_at l)) ≡ Ok u
    → (r >>= λ l. before (step_at l 0) (follow_by lead ps (k + 1) (end_at l) (after l []))) ≡ Err e → ⊥
step_follows (Err x) ps k u e rest ends fails = cc
step_follows (Ok (Part s v)) ps k u e rest ends fails = rest v ends (no_before _ _ e fails)
step_follows (Ok (Open p n v)) ps k u e rest ends fails = rest v ends (no_before _ _ e fails)

-- a path that ends somewhere is followed
pub follows : (ps : List PathStep) (k : ℕ) (t u : Tree) (e : Refusal) → end_from ps k t ≡ Ok u → follow_by lead ps k t [] ≡ Err e → ⊥
follows [] k t u e ends fails = cc
follows (p ∷ ps) k t u e ends fails = step_follows (lead k p t) ps k u e (λ v. follows ps (k + 1) v u e) ends fails

-- what a value layout is accessed as, it has a value
has_value : (last : Tree) (v : ValueSpec) → IsSpecOf last v → IsValue last
has_value (Value k o l) v is = tt
has_value last v is = absurd is

-- a path that is resolved isn't refused
pub not_refused : (path : List PathStep) (t : Tree) (r : Resolution) (e : Refusal) → IsResolved path t r → IsRefusal path t e → e ≢ Memory → ⊥
not_refused path t r e a (at_step x is) other = follows path 0 t a.last e a.ends (is [])
not_refused path t r e a (no_value elsewhere) other =
    let last : a.last ≡ elsewhere.last = same_ok _ _ _ a.ends elsewhere.ends in
    elsewhere.no_value (subst IsValue last (has_value a.last r.value a.value))
not_refused path t r e a no_memory other = other refl

-- nor are an item and a condition that are admitted
pub item_clash : (t : Tree) (e : Refusal) → e ≢ Memory → (s : ItemSyntax) → IsItemAdmitted t s → IsItemRefused t s e → ⊥
item_clash t e other syntax.Count has denied = denied
item_clash t e other (syntax.Of fold path) has denied = not_refused path t has.1.asked.0 e has.1.asked.1 denied other

pub condition_clash : (t : Tree) (e : Refusal) → e ≢ Memory → (s : ConditionSyntax) → IsConditionAdmitted t s → IsConditionRefused t s e → ⊥
condition_clash t e other s has (at_path x denied) = not_refused s.path t has.0.path e has.1.path denied other
condition_clash t e other s has (left_open k r resolved open_at) = let closed = has.1.closed in cc

-- where all are admitted none is refused
pub none_first : {A : Type 0} (Admits : A → Type 0) (Refuses : A → Refusal → Type 0) (e : Refusal) → ((x : A) → Admits x → Refuses x e → ⊥)
    → (xs : List A) → AllByRecursion Admits xs → IsFirstRefused Admits Refuses xs e → ⊥
none_first Admits Refuses e never [] all first = first
none_first Admits Refuses e never (x ∷ xs) all (inl a) = never x all.0 a
none_first Admits Refuses e never (x ∷ xs) all (inr a) = none_first Admits Refuses e never xs all.1 a.1

plan_not_refused : (t : Tree) (q : Syntax) (p : Plan) (e : Refusal) → IsPlanOf t q p → IsSyntaxRefused t q e → e ≢ Memory → ⊥
plan_not_refused t q p e is (at_item first) other =
    none_first (IsItemAdmitted t) (IsItemRefused t) e (item_clash t e other) q.items (all_admitted (IsItemOf t) q.items p.items is.items) first
plan_not_refused t q p e is (at_condition items first) other =
    none_first (IsConditionAdmitted t) (IsConditionRefused t) e (condition_clash t e other) q.conditions
    (all_admitted (IsConditionOf t) q.conditions p.conditions is.conditions) first

-- a text of a query leaves the grammar nowhere
pub not_no_text : (text : List ℕ) (q : Syntax) (e : Refusal) → IsTextOf text q → IsNoText text e → e ≢ Memory → ⊥
not_no_text text q e is = language.not_no_text IsQuery query_text text q e is.is_query is.spelled

-- a text that is refused has no plan
pub refused_has_none : (text : List ℕ) (t : Tree) (p : Plan) (e : Refusal) → IsNoQuery text t e → e ≢ Memory → IsParsed text t p → ⊥
refused_has_none text t p e (no_text denied) other parsed = not_no_text text parsed.syntax e parsed.is_text denied other
refused_has_none text t p e (refused q is_text denied) other parsed =
    plan_not_refused t q p e (subst (λ (s : Syntax). IsPlanOf t s p) (one_syntax text parsed.syntax q parsed.is_text is_text) parsed.is_plan) denied other
