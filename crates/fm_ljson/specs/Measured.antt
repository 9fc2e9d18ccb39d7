-- How many levels and nodes a layout has, its refs replaced by what they stand for.
use Rattle.std.specs.Prelude.{ℕ, zero, suc, ◌+◌, ◌<◌, ◌⊎◌, Bool, ◌||◌, max, nat_lt, Option, Some, None, unwrap_or, List, [], ◌∷◌, if◌then◌else◌}
use Rattle.serde_json.specs.Data.{Data}
use Rattle.fm_ljson.specs.{Documents.{Document, Numbered, Parts, first_of, parts_from}, Node.{Node, node_of, parts_in}}
use Rattle.fm_ljson.specs.{Nodes.{most_levels, most_nodes, most_written_levels}, Refs.{Ref, knowing, ref_of, unknown}, declared.measure.Extent.{Extent}}

abbrev pub measured : ℕ → ℕ → Extent
measured levels nodes = record { levels = levels; nodes = nodes }

-- a layout that has no parts
abbrev pub single : Extent
single = measured 1 1

-- side by side
abbrev pub beside : Extent → Extent → Extent
beside a b = measured (max a.levels b.levels) (a.nodes + b.nodes)

-- these parts, side by side, each of which measures so
abbrev pub all_measured : (Data → Extent) → List Data → Extent
all_measured f [] = measured 0 0
all_measured f (d ∷ ds) = beside (f d) (all_measured f ds)

-- a node above them
abbrev pub above : Extent → Extent
above m = measured (m.levels + 1) (m.nodes + 1)

abbrev pub ref_measured : (List ℕ → Option Extent) → Option Ref → Extent
ref_measured known None = single
ref_measured known (Some r) = unwrap_or (known r.of) single

abbrev pub node_measured : (Data → Extent) → Extent → Option Node → Extent
node_measured f other None = other
node_measured f other (Some n) = above (all_measured f (parts_in n.content))

-- the measure of a layout with so many written levels, where refs stand for layouts that measure so
unfoldable pub measure : (List ℕ → Option Extent) → ℕ → Data → Extent
measure known zero d = single
measure known (suc levels) d = node_measured (measure known levels) (ref_measured known (ref_of d)) (node_of d)

-- more levels than a layout may have, or more nodes
abbrev pub is_large : Extent → Bool
is_large m = nat_lt most_levels m.levels || nat_lt most_nodes m.nodes

abbrev pub IsLarge : Extent → Type 0
IsLarge m = (most_levels < m.levels) ⊎ (most_nodes < m.nodes)

-- the measure of a whole layout
abbrev pub measure_of : (List ℕ → Option Extent) → Data → Extent
measure_of known d = measure known most_written_levels d

-- the number of a root, where what is below it is too large
abbrev pub large_at : ℕ → Extent → Option ℕ
large_at n m = if is_large m then Some n else None

-- The number of the first root whose layout is too large: each entry is measured by the earlier ones, and `layout`, whose
-- root has number n, by all.
abbrev pub first_large : (List ℕ → Option Extent) → List Numbered → ℕ → Data → Option ℕ
first_large known [] n layout = large_at n (measure_of known layout)
first_large known (e ∷ es) n layout =
    first_of (large_at e.number (measure_of known e.layout)) (first_large (knowing e.name (measure_of known e.layout) known) es n layout)

abbrev pub large_in : Parts → Data → Option ℕ
large_in parts layout = first_large unknown parts.entries parts.number layout

abbrev pub large_of : Document → Option ℕ
large_of x = large_in (parts_from 1 x.types) x.layout
