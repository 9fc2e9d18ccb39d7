-- What is known on the way through the types of a text, and what their parts measure.
use Rattle.std.specs.Prelude.{◌≡◌, ◌⊎◌, ℕ, ◌+◌, ◌≤◌, ◌++◌, Bool, Option, Some, None, List, map}
use Rattle.serde_json.specs.{Data.{Data}, View.{view}, declared.value.Value.{Value}}
use Rattle.fm_base.specs.declared.refusal.Refusal.{Refusal, TheVariants.{BadShape, Memory}}
use Rattle.fm_ljson.specs.Documents.{Entry, Numbered, Parts, at_entry, behind, broken_at, entry, first_broken_of, first_of, new_entry, parts_from}
use Rattle.fm_ljson.specs.{Measured.{IsLarge, all_measured, measure}, Nodes.{most_levels, most_nodes, most_written_nodes}, Refs.{none_known}}
use Rattle.fm_ljson.specs.declared.measure.Extent.{Extent}

-- ---- measures

abbrev pub all_parts : (List ℕ → Option Extent) → ℕ → List Value → Extent
all_parts known levels vs = all_measured (measure known levels) (map view vs)

-- the measure, which isn't too large
pub record IsExactly (k m : Extent) : Type 0 where
  pub same : k ≡ m
  pub levels : k.levels ≤ most_levels
  pub nodes : k.nodes ≤ most_nodes

-- the measure, unless it is too large
abbrev pub IsMeasured : Option Extent → Extent → Type 0
IsMeasured None m = IsLarge m
IsMeasured (Some k) m = IsExactly k m

-- ---- refusals

abbrev pub IsAt : Option ℕ → Refusal → Type 0
IsAt None r = ⊥
IsAt (Some n) r = r ≡ BadShape n

-- the node is refused, unless memory ran out
abbrev pub IsBadShape : Option ℕ → Refusal → Type 0
IsBadShape node r = (r ≡ Memory) ⊎ IsAt node r

-- ---- entries

-- node n is an entry whose layout breaks no rule, and the next has number m
pub record IsSoundEntry (known : List ℕ → Bool) (n : ℕ) (d : Data) (e : Numbered) (m : ℕ) : Type 0 where
  pub says : new_entry known n d ≡ Some (entry e.layout e.name)
  pub number : e.number ≡ n + 1
  pub none : broken_at known (n + 1) e.layout ≡ None
  pub next : m ≡ behind (n + 1) e.layout
  pub few : m ≤ most_written_nodes

-- of this entry, which is node n, and its layout, node m is the first that breaks a rule, whatever follows
abbrev pub IsBrokenEntry : (List ℕ → Bool) → ℕ → Data → ℕ → Type 0
IsBrokenEntry known n d m =
    (rest : Entry → Option ℕ) → at_entry n (new_entry known n d) (λ e. first_of (broken_at known (n + 1) e.layout) (rest e)) ≡ Some m

-- no written rule is broken, and these are the parts
pub record AreParts (types : List Data) (layout : Data) (parts : Parts) : Type 0 where
  pub none : first_broken_of none_known 1 types layout ≡ None
  pub same : parts ≡ parts_from 1 types

abbrev pub behind_all : List Numbered → Parts → Parts
behind_all es p = record { entries = es ++ p.entries; number = p.number }

-- behind these entries, of which the names are known, the rest is left, counted from n
pub record IsReading (known : List ℕ → Bool) (es : List Numbered) (n : ℕ) (types rest : List Data) (layout : Data) : Type 0 where
  pub same : first_broken_of none_known 1 types layout ≡ first_broken_of known n rest layout
  pub parts : parts_from 1 types ≡ behind_all es (parts_from n rest)
  pub few : n ≤ most_written_nodes
