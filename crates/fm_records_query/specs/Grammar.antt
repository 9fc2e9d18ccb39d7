-- The texts of queries, and what a text that is none begins.
use Rattle.std.specs.{Prelude.{◌≡◌, ℤ, pos, negsuc, ℕ, ◌^◌, ◌<◌, ◌≤◌, List, [], ◌∷◌, ◌++◌, length, codes}, Fmt.{signed_decimal}, List.{AllByRecursion, join_by}}
use Rattle.fm_base.specs.declared.refusal.Refusal.{Refusal}
use Rattle.fm_path_text.specs.Grammar as path
use Rattle.fm_path_text.specs.Language as language
use Rattle.fm_records_query.specs.declared.{fold.Fold.{Fold, TheVariants.{Sum, Least, Greatest, All}}, operator.Operator.{Operator}}
use Rattle.fm_records_query.specs.declared.{operator.Operator.TheVariants.{Equal, NotEqual, Below, AtMost, Above, AtLeast}, syntax.ItemSyntax.{ItemSyntax}}
use Rattle.fm_records_query.specs.declared.syntax.{ItemSyntax.TheVariants.{Count, Of}, ConditionSyntax.{ConditionSyntax}}

-- the most items, and the most conditions
abbrev pub most_parts : ℕ
most_parts = 16

abbrev pub fold_text : Fold → List ℕ
fold_text Sum = codes "sum"
fold_text Least = codes "min"
fold_text Greatest = codes "max"
fold_text All = codes "list"

abbrev pub item_text : ItemSyntax → List ℕ
item_text Count = codes "count"
item_text (Of fold steps) = fold_text fold ++ (codes "(" ++ (path.path_text steps ++ codes ")"))

abbrev pub operator_text : Operator → List ℕ
operator_text Equal = codes "="
operator_text NotEqual = codes "!="
operator_text Below = codes "<"
operator_text AtMost = codes "<="
operator_text Above = codes ">"
operator_text AtLeast = codes ">="

-- a path, an operator and a number without a leading zero
abbrev pub condition_text : ConditionSyntax → List ℕ
condition_text c = path.path_text c.path ++ (operator_text c.operator ++ signed_decimal c.literal)

-- what a query's text says: its items, and its conditions, if it has any
pub record Syntax : Type 0 where
  pub items : List ItemSyntax
  pub conditions : List ConditionSyntax

abbrev pub syntax : List ItemSyntax → List ConditionSyntax → Syntax
syntax items conditions = record { items = items; conditions = conditions }

abbrev pub where_text : List ConditionSyntax → List ℕ
where_text [] = []
where_text (c ∷ cs) = codes " where " ++ join_by condition_text (codes " and ") (c ∷ cs)

abbrev pub query_text : Syntax → List ℕ
query_text q = join_by item_text (codes ",") q.items ++ where_text q.conditions

-- a number that a literal may write: those of 64 bits with a sign
abbrev pub IsLiteral : ℤ → Type 0
IsLiteral (pos n) = n < 2 ^ 63
IsLiteral (negsuc n) = n < 2 ^ 63

-- an item that has a text
abbrev pub IsItem : ItemSyntax → Type 0
IsItem Count = Unit {0}
IsItem (Of fold steps) = path.IsPath steps

-- a condition that has a text
pub record IsCondition (c : ConditionSyntax) : Type 0 where
  pub is_path : path.IsPath c.path
  pub is_literal : IsLiteral c.literal

-- a query that has a text
pub record IsQuery (q : Syntax) : Type 0 where
  pub items : AllByRecursion IsItem q.items
  pub some_item : 1 ≤ length q.items
  pub few_items : length q.items ≤ most_parts
  pub conditions : AllByRecursion IsCondition q.conditions
  pub few_conditions : length q.conditions ≤ most_parts

-- the text is that of this query, and of no other
pub record IsTextOf (text : List ℕ) (q : Syntax) : Type 0 where
  pub is_query : IsQuery q
  pub spelled : text ≡ query_text q
  pub only : (other : Syntax) → IsQuery other → text ≡ query_text other → q ≡ other

-- some query's text begins so
abbrev pub Begins : List ℕ → Type 0
Begins = language.Begins IsQuery query_text

-- the longest prefix of the text that begins some query's text has this length, and the text is no query's
abbrev pub BeginsUpTo : ℕ → List ℕ → Type 0
BeginsUpTo = language.BeginsUpTo IsQuery query_text

-- what reading a query's text may answer in place of what it says
abbrev pub IsNoText : List ℕ → Refusal → Type 0
IsNoText = language.IsNoText IsQuery query_text
