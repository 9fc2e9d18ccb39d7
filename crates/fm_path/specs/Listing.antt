-- The text that lists the values of a layout.
use Rattle.std.specs.Prelude.{ℕ, ◌+◌, Bool, false, Option, Some, None, List, [], ◌∷◌, ◌++◌, codes, decimal, nat_eq, if◌then◌else◌}
use Rattle.fm_lanes.specs.{declared.{order.Order.{Order}, value_kind.ValueKind.{ValueKind}}, Named.{kind_text, order_text}}
use Rattle.fm_layout.specs.{Tree.{Tree, Trees, Value, Padding, Sequence, Struct, Union, NoMore, More, alignment_of, name_of}, Size.{size_of, member_offset}}
use Rattle.fm_path_text.specs.{declared.step.PathStep.{PathStep, TheVariants.{Name, Group, Each}}, Grammar.{path_text}}
use Rattle.fm_path_meaning.specs.Follow.{members_of, index_in}

abbrev pub newline : List ℕ
newline = 10 ∷ []

-- a value of a layout: the path to it, open at each sequence; its offset at index 0; the stride and bound of each open step
pub record Line : Type 0 where
  pub path : List PathStep
  pub offset : ℕ
  pub dims : List (ℕ × ℕ)
  pub kind : ValueKind
  pub order : Order

abbrev pub is_index : ℕ → Option ℕ → Bool
is_index i None = false
is_index i (Some j) = nat_eq i j

abbrev pub step_named : Tree → ℕ → Option (List ℕ) → PathStep
step_named group i None = Group i
step_named group i (Some name) = if is_index i (index_in name (members_of group)) then Name name else Group i

-- the step to member i of a group: its name, where it is the first member of that name, else its index
abbrev pub step_to : Tree → ℕ → Tree → PathStep
step_to group i member = step_named group i (name_of member)

abbrev mutual
  -- the values of a layout in their order, where the layout itself is reached by this path, with these dims, at this offset
  pub lines : List PathStep → ℕ → List (ℕ × ℕ) → Tree → List Line
  lines path at dims (Value k o l) = record { path = path; offset = at; dims = dims; kind = k; order = o } ∷ []
  lines path at dims (Padding n l) = []
  lines path at dims (Sequence n e l) = lines (path ++ Each ∷ []) at (dims ++ (size_of e, n) ∷ []) e
  lines path at dims (Struct ms l) = member_lines path at dims (Struct ms l) 0 ms
  lines path at dims (Union ms l) = member_lines path at dims (Union ms l) 0 ms

  -- those of the members of a group from index i on
  pub member_lines : List PathStep → ℕ → List (ℕ × ℕ) → Tree → ℕ → Trees → List Line
  member_lines path at dims group i NoMore = []
  member_lines path at dims group i (More t ts) =
      lines (path ++ step_to group i t ∷ []) (at + member_offset i group) dims t
      ++ member_lines path at dims group (i + 1) ts

abbrev pub dim_text : ℕ → ℕ → List ℕ
dim_text stride bound = codes " " ++ decimal stride ++ (codes "*" ++ decimal bound)

abbrev pub dims_text : List (ℕ × ℕ) → List ℕ
dims_text [] = []
dims_text (d ∷ ds) = dim_text d.0 d.1 ++ dims_text ds

-- PATH OFFSET TYPE ORDER, and STRIDE*BOUND for each open step
abbrev pub value_text : List ℕ → ℕ → ValueKind → Order → List ℕ → List ℕ
value_text path at kind order dims =
    path ++ (codes " " ++ (decimal at ++ (codes " " ++ (kind_text kind ++ (codes " " ++ (order_text order ++ (dims ++ newline)))))))

abbrev pub line_text : Line → List ℕ
line_text l = value_text (path_text l.path) l.offset l.kind l.order (dims_text l.dims)

abbrev pub lines_text : List Line → List ℕ
lines_text [] = []
lines_text (l ∷ ls) = line_text l ++ lines_text ls

abbrev pub head_text : ℕ → ℕ → List ℕ
head_text size alignment =
    codes "size " ++ (decimal size ++ (newline ++ (codes "alignment " ++ (decimal alignment ++ newline))))

-- the layout's size and alignment, and a line for each of its values
abbrev pub list_text : Tree → List ℕ
list_text t = head_text (size_of t) (alignment_of t) ++ lines_text (lines [] 0 [] t)
