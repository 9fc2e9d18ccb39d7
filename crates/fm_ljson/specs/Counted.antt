-- What is known on the way through the nodes.
use Rattle.std.specs.Prelude.{◌≡◌, ℕ, ◌+◌, ◌≤◌, Bool, Some, None, List, length, map, flat_map}
use Rattle.serde_json.specs.{Data.{Data}, View.{view}, declared.value.Value.{Value}}
use Rattle.fm_ljson.specs.Nodes.{first_broken, nodes}

-- the nodes from these down
abbrev pub all_nodes : ℕ → List Value → List (ℕ × Data)
all_nodes levels vs = flat_map (nodes levels) (map view vs)

-- of these nodes, which are counted from n, node m is the first that breaks a rule
abbrev pub IsBroken : (List ℕ → Bool) → ℕ → ℕ → ℕ → List (ℕ × Data) → Type 0
IsBroken known most n m ps = first_broken known most n ps ≡ Some m

-- none of these nodes, which are counted from n, breaks a rule, and the next has number m
pub record AreSound (known : List ℕ → Bool) (most n m : ℕ) (ps : List (ℕ × Data)) : Type 0 where
  pub none : first_broken known most n ps ≡ None
  pub next : m ≡ n + length ps
  pub few : m ≤ most

-- of all these nodes, counted from n, the rest is left, counted from k
pub record IsCounting (known : List ℕ → Bool) (most n k : ℕ) (all rest : List (ℕ × Data)) : Type 0 where
  pub same : first_broken known most n all ≡ first_broken known most k rest
  pub next : k + length rest ≡ n + length all
  pub few : k ≤ most
