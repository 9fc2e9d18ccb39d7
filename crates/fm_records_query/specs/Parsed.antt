-- What the text of a query comes to over a layout, and why it is refused.
use Rattle.std.specs.{Prelude.{◌≡◌, ℕ, ◌+◌, ◌⊎◌, Bool, true, false, if◌then◌else◌, Option, Some, None, List, [], ◌∷◌}, List.{AllByRecursion, AllZip}}
use Rattle.fm_base.specs.declared.refusal.Refusal.{Refusal, TheVariants.{StillOpen, Memory}}
use Rattle.fm_layout.specs.{Tree.{Tree, alignment_of}, Size.{size_of}}
use Rattle.fm_path_text.specs.declared.step.PathStep.{PathStep, TheVariants.{Each, EachFrom}}
use Rattle.fm_path.specs.Resolution.{Resolution, IsResolved, IsRefusal}
use Rattle.fm_records_query.specs.declared.{syntax.{ItemSyntax.{ItemSyntax}, ConditionSyntax.{ConditionSyntax}}, item.{Asked.{Asked}, Item.{Item}}}
use Rattle.fm_records_query.specs.{declared.condition.Condition.{Condition}, Grammar.{Syntax, IsTextOf, IsNoText, item_text, condition_text}, Plan.{Plan}}
use Rattle.fm_records_query.specs.declared.syntax.ItemSyntax.TheVariants as syntax
use Rattle.fm_records_query.specs.declared.item.Asked.TheVariants as asked

-- the step leaves an index open
abbrev pub is_open : PathStep → Bool
is_open Each = true
is_open (EachFrom f s) = true
is_open p = false

-- the first step of a path that leaves an index open, where its first step has this number
abbrev pub open_from : ℕ → List PathStep → Option ℕ
open_from k [] = None
open_from k (p ∷ ps) = if is_open p then Some k else open_from (k + 1) ps

abbrev pub first_open : List PathStep → Option ℕ
first_open path = open_from 0 path

abbrev pub IsAskedOf : Tree → ItemSyntax → Asked → Type 0
IsAskedOf t syntax.Count a = a ≡ asked.Count
IsAskedOf t (syntax.Of fold path) a = (r : Resolution) × IsResolved path t r × (a ≡ asked.Of fold r)

-- the item has this syntax's text, and its path resolved
pub record IsItemOf (t : Tree) (s : ItemSyntax) (item : Item) : Type 0 where
  pub text : item.text ≡ item_text s
  pub asked : IsAskedOf t s item.asked

-- the condition has this syntax's text, operator and number, and its path resolved, with no index open
pub record IsConditionOf (t : Tree) (s : ConditionSyntax) (c : Condition) : Type 0 where
  pub text : c.text ≡ condition_text s
  pub path : IsResolved s.path t c.path
  pub closed : first_open s.path ≡ None
  pub operator : c.operator ≡ s.operator
  pub literal : c.literal ≡ s.literal

-- the query is what this syntax asks of records of this layout
pub record IsPlanOf (t : Tree) (q : Syntax) (p : Plan) : Type 0 where
  pub size : p.size ≡ size_of t
  pub alignment : p.alignment ≡ alignment_of t
  pub items : AllZip (IsItemOf t) q.items p.items
  pub conditions : AllZip (IsConditionOf t) q.conditions p.conditions

-- why an item is refused: its path is
abbrev pub IsItemRefused : Tree → ItemSyntax → Refusal → Type 0
IsItemRefused t syntax.Count e = ⊥
IsItemRefused t (syntax.Of fold path) e = IsRefusal path t e

-- why a condition is refused: its path is; else it leaves an index open, first at this step
pub data IsConditionRefused (t : Tree) (s : ConditionSyntax) : Refusal → Type 0 where
  at_path : (e : Refusal) → IsRefusal s.path t e → IsConditionRefused t s e
  left_open : (k : ℕ) → (r : Resolution) → IsResolved s.path t r → first_open s.path ≡ Some k → IsConditionRefused t s (StillOpen k)

-- the first that is refused, those before it being admitted
abbrev pub IsFirstRefused : {A : Type 0} → (A → Type 0) → (A → Refusal → Type 0) → List A → Refusal → Type 0
IsFirstRefused Admits Refuses [] e = ⊥
IsFirstRefused Admits Refuses (x ∷ xs) e = Refuses x e ⊎ (Admits x × IsFirstRefused Admits Refuses xs e)

abbrev pub IsItemAdmitted : Tree → ItemSyntax → Type 0
IsItemAdmitted t s = (item : Item) × IsItemOf t s item

abbrev pub IsConditionAdmitted : Tree → ConditionSyntax → Type 0
IsConditionAdmitted t s = (c : Condition) × IsConditionOf t s c

abbrev pub AreItemsRefused : Tree → List ItemSyntax → Refusal → Type 0
AreItemsRefused t items = IsFirstRefused (IsItemAdmitted t) (IsItemRefused t) items

abbrev pub AreConditionsRefused : Tree → List ConditionSyntax → Refusal → Type 0
AreConditionsRefused t conditions = IsFirstRefused (IsConditionAdmitted t) (IsConditionRefused t) conditions

-- why a query is refused: the first of its items that is; else the first of its conditions that is
pub data IsSyntaxRefused (t : Tree) (q : Syntax) (e : Refusal) : Type 0 where
  at_item : AreItemsRefused t q.items e → IsSyntaxRefused t q e
  at_condition : AllByRecursion (IsItemAdmitted t) q.items → AreConditionsRefused t q.conditions e → IsSyntaxRefused t q e

-- the text is that of a query, which comes to this plan
pub record IsParsed (text : List ℕ) (t : Tree) (p : Plan) : Type 0 where
  pub syntax : Syntax
  pub is_text : IsTextOf text syntax
  pub is_plan : IsPlanOf t syntax p

-- what parsing a text answers in place of a query: where it leaves the grammar; else why the query is refused
pub data IsNoQuery (text : List ℕ) (t : Tree) (e : Refusal) : Type 0 where
  no_text : IsNoText text e → IsNoQuery text t e
  refused : (q : Syntax) → IsTextOf text q → IsSyntaxRefused t q e → IsNoQuery text t e

-- refused so, or for want of memory
abbrev pub OrMemory : (Refusal → Type 0) → Refusal → Type 0
OrMemory Refuses e = Refuses e ⊎ (e ≡ Memory)
