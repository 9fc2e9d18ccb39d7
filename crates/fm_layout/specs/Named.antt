-- Layouts whose every name is a name.
use Rattle.std.specs.Prelude.{ℕ, Option, Some, None, List}
use Rattle.fm_layout.specs.{Name.{IsName}, Tree.{Tree, Trees, Value, Padding, Sequence, Struct, Union, NoMore, More}}

abbrev pub IsNameIfAny : Option (List ℕ) → Type 0
IsNameIfAny None = Unit {0}
IsNameIfAny (Some name) = IsName name

abbrev mutual
  pub HasNames : Tree → Type 0
  HasNames (Value k o l) = IsNameIfAny l.name
  HasNames (Padding n l) = IsNameIfAny l.name
  HasNames (Sequence n e l) = IsNameIfAny l.name × HasNames e
  HasNames (Struct ms l) = IsNameIfAny l.name × HaveNames ms
  HasNames (Union ms l) = IsNameIfAny l.name × HaveNames ms

  pub HaveNames : Trees → Type 0
  HaveNames NoMore = Unit {0}
  HaveNames (More t ts) = HasNames t × HaveNames ts
