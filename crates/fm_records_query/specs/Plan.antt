-- What a query is seen as: the record's size and alignment in bytes, its items and its conditions.
use Rattle.std.specs.{Prelude.{◌≡◌, ℕ, ◌*◌, ◌%◌, ◌^◌, ◌<◌, ◌≤◌, List, [], ◌∷◌, length}, List.{AllByRecursion}}
use Rattle.fm_path.specs.Resolution.{Resolution, StaysInside}
use Rattle.fm_path_meaning.specs.declared.dim.Dim.{Dim}
use Rattle.fm_records_query.specs.{Grammar.{most_parts}, declared.{item.{Asked.{Asked, TheVariants.{Count, Of}}, Item.{Item}}, condition.Condition.{Condition}}}

pub record Plan : Type 0 where
  pub size : ℕ
  pub alignment : ℕ
  pub items : List Item
  pub conditions : List Condition

abbrev pub plan : ℕ → ℕ → List Item → List Condition → Plan
plan size alignment items conditions = record { size = size; alignment = alignment; items = items; conditions = conditions }

-- how many values a path has: one for each list of indices below the bounds
abbrev pub value_count : List Dim → ℕ
value_count [] = 1
value_count (d ∷ ds) = d.bound * value_count ds

-- the path is one through a record of this size and alignment, and has no more values than the record has bytes
pub record IsThrough (bytes multiple : ℕ) (r : Resolution) : Type 0 where
  pub size : r.root_size ≡ bytes
  pub alignment : r.root_alignment ≡ multiple
  pub stays : StaysInside r
  pub few : value_count r.dims ≤ bytes

abbrev pub AsksOf : ℕ → ℕ → Asked → Type 0
AsksOf size alignment Count = Unit {0}
AsksOf size alignment (Of fold r) = IsThrough size alignment r

abbrev pub IsItemIn : ℕ → ℕ → Item → Type 0
IsItemIn size alignment item = AsksOf size alignment item.asked

-- a condition is on one value of the record
pub record IsConditionIn (size alignment : ℕ) (c : Condition) : Type 0 where
  pub through : IsThrough size alignment c.path
  pub closed : c.path.dims ≡ []

-- what holds of every query
pub record IsPlan (p : Plan) : Type 0 where
  pub sized : 0 < p.size
  pub small : p.size ≤ 2 ^ 40
  pub even : p.size % p.alignment ≡ 0
  pub items : AllByRecursion (IsItemIn p.size p.alignment) p.items
  pub some_item : 1 ≤ length p.items
  pub few_items : length p.items ≤ most_parts
  pub conditions : AllByRecursion (IsConditionIn p.size p.alignment) p.conditions
  pub few_conditions : length p.conditions ≤ most_parts
