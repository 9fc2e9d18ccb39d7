-- The layout that nodes stand for: each is built after its parts, and the first refusal is answered.
use Rattle.std.specs.Prelude.{◌≡◌, ◌⊎◌, ℕ, zero, suc, Option, Some, None, Result, Ok, Err, List, [], ◌∷◌, map}
use Rattle.serde_json.specs.{Data.{Data}, View.{view}, declared.value.Value.{Value}}
use Rattle.fm_base.specs.declared.refusal.Refusal.{Refusal, TheVariants.{BadShape, Memory}}
use Rattle.fm_layout.specs.Tree.{Tree, Trees, NoMore, More}
use Rattle.fm_layout.specs.Made.{value_of, padding_of, sequence_of, struct_of, union_of, with_alignment, with_name, with_order}
use Rattle.fm_ljson.specs.{Node.{Content, Padding, Sequence, Struct, Union, Node, node_of}, Documents.{Document, Numbered, parts_from}}
use Rattle.fm_ljson.specs.{Nodes.{most_written_levels}, Refs.{Ref, knowing, ref_of, unknown}}
use Rattle.fm_ljson.specs.Node as said

-- what f makes of the first, or the first's refusal
abbrev pub then : {A B : Type 0} → (A → Result B Refusal) → Result A Refusal → Result B Refusal
then f (Ok a) = f a
then f (Err r) = Err r

-- this answer, but for want of memory, which is free
abbrev pub OrMemory : {A : Type 0} → Result A Refusal → Result A Refusal → Type 0
OrMemory r s = (r ≡ Err Memory) ⊎ (r ≡ s)

-- all of them, or the first refusal
abbrev pub all_of : List (Result Tree Refusal) → Result Trees Refusal
all_of [] = Ok NoMore
all_of (r ∷ rs) = then (λ t. then (λ ts. Ok (More t ts)) (all_of rs)) r

-- the layout of a content, whose parts are built so
abbrev pub content_built : (Data → Result Tree Refusal) → Content → Result Tree Refusal
content_built build (said.Value k o) = Ok (with_order o (value_of k))
content_built build (Padding n) = padding_of n
content_built build (Sequence n e) = then (sequence_of n) (build e)
content_built build (Struct ms) = then struct_of (all_of (map build ms))
content_built build (Union ms) = then (λ ts. Ok (union_of ts)) (all_of (map build ms))

abbrev pub aligned : Option ℕ → Tree → Result Tree Refusal
aligned None t = Ok t
aligned (Some n) t = with_alignment n t

abbrev pub named : Option (List ℕ) → Tree → Tree
named None t = t
named (Some name) t = with_name name t

-- what was made, under this name, if any
abbrev pub renamed : Option (List ℕ) → Result Tree Refusal → Result Tree Refusal
renamed name r = then (λ t. Ok (named name t)) r

-- the layout with this alignment, if any, and then this name
abbrev pub finished : Option ℕ → Option (List ℕ) → Tree → Result Tree Refusal
finished align name t = then (λ u. Ok (named name u)) (aligned align t)

-- the layout of a node: that of its content, finished
abbrev pub node_built : (Data → Result Tree Refusal) → Node → Result Tree Refusal
node_built build n = then (finished n.align n.name) (content_built build n.content)

-- an equal copy of the layout that is known, under the name of the ref, if it has one; a ref to no known type is never built
abbrev pub copied_as : Option (List ℕ) → Option Tree → Result Tree Refusal
copied_as name None = Err (BadShape 0)
copied_as name (Some t) = Ok (named name t)

abbrev pub copied : (List ℕ → Option Tree) → Option Ref → Result Tree Refusal
copied known None = Err (BadShape 0)
copied known (Some r) = copied_as r.name (known r.of)

abbrev pub built_if_any : (Data → Result Tree Refusal) → Result Tree Refusal → Option Node → Result Tree Refusal
built_if_any build other None = other
built_if_any build other (Some n) = node_built build n

-- The layout of a node with so many levels from it down, where these types are known. One that breaks a rule is never
-- built.
unfoldable pub built : (List ℕ → Option Tree) → ℕ → Data → Result Tree Refusal
built known zero d = Err (BadShape 0)
built known (suc levels) d = built_if_any (built known levels) (copied known (ref_of d)) (node_of d)

-- the layouts of these nodes
abbrev pub all_built : (List ℕ → Option Tree) → ℕ → List Value → Result Trees Refusal
all_built known levels vs = all_of (map (built known levels) (map view vs))

-- ---- types

-- the layout that may refer to what each entry defines; each entry is built behind the earlier ones, and `layout` last
abbrev pub built_behind : (List ℕ → Option Tree) → List Numbered → Data → Result Tree Refusal
built_behind known [] layout = built known most_written_levels layout
built_behind known (e ∷ es) layout =
    then (λ t. built_behind (knowing e.name t known) es layout) (built known most_written_levels e.layout)

abbrev pub built_of : Document → Result Tree Refusal
built_of x = built_behind unknown (parts_from 1 x.types).entries x.layout
