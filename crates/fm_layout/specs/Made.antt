-- What constructors of layouts answer: a layout, or the first refusal that applies.
use Rattle.std.specs.{Prelude.{ℕ, ◌+◌, ◌*◌, ◌%◌, Option, Some, None, Result, Ok, Err, List, if◌then◌else◌, nat_eq, nat_le}, Int.{is_power_of_two}}
use Rattle.fm_base.specs.declared.refusal.Refusal.{Refusal, TheVariants.{Overflow, MemberMisaligned, ElementRagged, BadPadding, BadAlignment, AlignmentBelow}}
use Rattle.fm_lanes.specs.{declared.{order.Order.{Order, TheVariants.{Little}}, value_kind.ValueKind.{ValueKind}}, Kind.{width_of}}
use Rattle.fm_layout.specs.Tree.{Label, Tree, Trees, Value, Padding, Sequence, Struct, Union, NoMore, More, label_of, alignment_of, relabelled}
use Rattle.fm_layout.specs.{Size.{size_of, greatest_alignment, least_of}, WellFormed.{limit}}

-- this alignment, and no name
abbrev pub plain : ℕ → Label
plain alignment = record { alignment = alignment; name = None }

-- a layout, unless it is refused
abbrev pub made : Tree → Option Refusal → Result Tree Refusal
made t None = Ok t
made t (Some r) = Err r

-- a value, little, with its natural alignment
abbrev pub value_of : ValueKind → Tree
value_of k = Value k Little (plain (width_of k))

abbrev pub padding_of : ℕ → Result Tree Refusal
padding_of n =
    if nat_eq n 0 then Err BadPadding
    else (if nat_le n limit then Ok (Padding n (plain 1)) else Err Overflow)

-- the refusal of a sequence
abbrev pub sequence_fault : ℕ → ℕ → ℕ → Option Refusal
sequence_fault count size alignment =
    if nat_eq (size % alignment) 0
    then (if nat_le (count * size) limit then None else Some Overflow)
    else Some ElementRagged

abbrev pub sequence_of : ℕ → Tree → Result Tree Refusal
sequence_of n e = made (Sequence n e (plain (alignment_of e))) (sequence_fault n (size_of e) (alignment_of e))

-- the first member that breaks the rule of structs: they are numbered from `index`, and the first begins at offset `at`
abbrev pub fault_of : ℕ → ℕ → Trees → Option Refusal
fault_of index at NoMore = None
fault_of index at (More t ts) =
    if nat_eq (at % alignment_of t) 0
    then (if nat_le (at + size_of t) limit then fault_of (index + 1) (at + size_of t) ts else Some Overflow)
    else Some (MemberMisaligned index at)

abbrev pub struct_of : Trees → Result Tree Refusal
struct_of ts = made (Struct ts (plain (greatest_alignment ts))) (fault_of 0 0 ts)

abbrev pub union_of : Trees → Tree
union_of ts = Union ts (plain (greatest_alignment ts))

-- the layout under this name, in place of any that it had
abbrev pub with_name : List ℕ → Tree → Tree
with_name name t = relabelled (record { alignment = alignment_of t; name = Some name }) t

-- a value layout in this byte order
abbrev pub with_order : Order → Tree → Tree
with_order order (Value k o l) = Value k order l
with_order order t = t

-- the layout with this alignment
abbrev pub with_alignment : ℕ → Tree → Result Tree Refusal
with_alignment n t =
    if is_power_of_two n
    then (if nat_le n limit
    then (if nat_le (least_of t) n
    then Ok (relabelled (record { alignment = n; name = (label_of t).name }) t)
    else Err (AlignmentBelow (least_of t)))
    else Err Overflow)
    else Err BadAlignment
