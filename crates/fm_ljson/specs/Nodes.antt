-- The nodes of a layout's text, their numbers, and the first that breaks a rule.
use Rattle.std.specs.Prelude.{ℕ, zero, suc, ◌+◌, ◌-◌, ◌^◌, Bool, ◌||◌, not, Option, Some, None, is_some, List, [], ◌∷◌, flat_map, nat_eq, nat_le, if◌then◌else◌}
use Rattle.serde_json.specs.Data.{Data}
use Rattle.fm_ljson.specs.{Node.{node_of, parts_of}, Refs.{is_known_ref, ref_of}}

-- the most levels of a layout; the root stands on the first
abbrev pub most_levels : ℕ
most_levels = 40

-- the most nodes of a layout
abbrev pub most_nodes : ℕ
most_nodes = 65536

-- Where types are named, what is written has no limits of its own but these, which no text comes to: JSON nests at most
-- so many levels, and no text is so long.
abbrev pub most_written_levels : ℕ
most_written_levels = 127

abbrev pub most_written_nodes : ℕ
most_written_nodes = 2 ^ 64 - 1

-- The nodes from this one down, each before its parts, and these in order; a ref has none. Each stands with how many
-- levels there may be from it down, and with 0 where it stands too deep.
unfoldable pub nodes : ℕ → Data → List (ℕ × Data)
nodes zero d = (0, d) ∷ []
nodes (suc levels) d = (suc levels, d) ∷ flat_map (nodes levels) (parts_of d)

-- a layout, or a ref to a known name
abbrev pub is_sound : (List ℕ → Bool) → Data → Bool
is_sound known d = is_some (node_of d) || is_known_ref known (ref_of d)

-- whether node number n, counted from 0, breaks a rule: it is one too many, stands too deep, or is no layout
abbrev pub is_broken : (List ℕ → Bool) → ℕ → ℕ → ℕ × Data → Bool
is_broken known most n (levels, d) = nat_le most n || (nat_eq levels 0 || not (is_sound known d))

-- the number of the first that breaks a rule, where they are counted from n and these names are known
abbrev pub first_broken : (List ℕ → Bool) → ℕ → ℕ → List (ℕ × Data) → Option ℕ
first_broken known most n [] = None
first_broken known most n (p ∷ ps) = if is_broken known most n p then Some n else first_broken known most (n + 1) ps
