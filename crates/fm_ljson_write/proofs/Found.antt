-- What the profile of the format finds in the canonical JSON: each node says what its layout is.
use Rattle.std.proofs.Common.{◌≡◌, refl, ap, ◌∙◌, ℕ, ◌≤◌, Bool, true, false, ◌&&◌, ◌||◌, nat_eq, nat_le, le-leb, cond, List, [], ◌∷◌, length, Option, Some, None, option_map, unwrap_or, codes}
use Rattle.std.{specs.List.{list_all}, proofs.lemmas.Bool.{and_from}}
use Rattle.serde_json.specs.{Data.{Data, string, array, object, Members, member}, Find.{get_member}}
use Rattle.fm_lanes.specs.declared.{order.Order.{Order, TheVariants.{Little, Big}}, value_kind.ValueKind.{ValueKind}}
use Rattle.fm_lanes.specs.{declared.value_kind.ValueKind.TheVariants.{Byte, Boolean, Char, Short, Int, Long}, Kind.{width_of}, Named.{kind_text}}
use Rattle.fm_layout.specs.{Name.{is_digit, is_letter, IsName}, Named.{HasNames, IsNameIfAny}, Size.{greatest_alignment}}
use Rattle.fm_layout.specs.{Tree.{Label, Tree, Trees, Value, Padding, Sequence, Struct, Union, alignment_of, label_of}, WellFormed.{limit, IsWellFormed}}
use Rattle.fm_layout.proofs.Names.{list_all-IsNameEnd}
use Rattle.fm_ljson.specs.Documents.{One, Two, document, text_of}
use Rattle.fm_ljson.specs.Node.{Content, Node, node_of, content_in, align_in, optional, has_only, is_name, list_of, whole_of}
use Rattle.fm_ljson.specs.{Types.{type_named, type_text, keys_of}, declared.type_name.TypeName.{TypeName}}
use Rattle.fm_ljson.specs.Node as node
use Rattle.fm_ljson.specs.declared.type_name.TypeName.TheVariants as type_name
use Rattle.fm_ljson_write.specs.{Canonical.{align_of, all_json, document_json, if_any, json_of, name_of, order_of, typed, whole}, Limits.{AreCountsSmall}}

-- ---- what each node says

-- the alignment, where it isn't the given one
abbrev pub unlike : ℕ → Label → Option ℕ
unlike given l = cond (nat_eq l.alignment given) None (Some l.alignment)

abbrev pub align_said : Tree → Option ℕ
align_said (Value k o l) = unlike (width_of k) l
align_said (Padding n l) = None
align_said (Sequence n e l) = unlike (alignment_of e) l
align_said (Struct ms l) = unlike (greatest_alignment ms) l
align_said (Union ms l) = unlike (greatest_alignment ms) l

abbrev pub content_said : Tree → Content
content_said (Value k o l) = node.Value k o
content_said (Padding n l) = node.Padding n
content_said (Sequence n e l) = node.Sequence n (json_of e)
content_said (Struct ms l) = node.Struct (list_of (all_json ms))
content_said (Union ms l) = node.Union (list_of (all_json ms))

abbrev pub node_said : Tree → Node
node_said t = record { content = content_said t; name = (label_of t).name; align = align_said t }

-- ---- its members

type_again : (t : TypeName) → type_named (type_text t) ≡ Some t
unfolding type_named
type_again (type_name.Value Byte) = refl
type_again (type_name.Value Boolean) = refl
type_again (type_name.Value Char) = refl
type_again (type_name.Value Short) = refl
type_again (type_name.Value Int) = refl
type_again (type_name.Value Long) = refl
type_again type_name.Padding = refl
type_again type_name.Sequence = refl
type_again type_name.Struct = refl
type_again type_name.Union = refl

-- the type, the name and the alignment that stand in members, which have no other keys than those of the type, so no version
record Says (t : TypeName) (n a : Option Data) (ms : Members) : Type 0 where
  type : get_member (codes "type") ms ≡ Some (string (type_text t))
  only : has_only (keys_of t) ms ≡ true
  name : get_member (codes "name") ms ≡ n
  align : get_member (codes "align") ms ≡ a
  plain : get_member (codes "version") ms ≡ None

-- the members of a value's object
abbrev valued : ValueKind → Option Data → Option Data → Option Data → Members
valued k a n o = if_any (codes "align") a (if_any (codes "name") n (if_any (codes "order") o (typed (kind_text k))))

value_says : (k : ValueKind) (a n o : Option Data) → Says (type_name.Value k) n a (valued k a n o)
value_says k None None None = record { type = refl; only = refl; name = refl; align = refl; plain = refl }
value_says k None None (Some o) = record { type = refl; only = refl; name = refl; align = refl; plain = refl }
value_says k None (Some n) None = record { type = refl; only = refl; name = refl; align = refl; plain = refl }
value_says k None (Some n) (Some o) = record { type = refl; only = refl; name = refl; align = refl; plain = refl }
value_says k (Some a) None None = record { type = refl; only = refl; name = refl; align = refl; plain = refl }
value_says k (Some a) None (Some o) = record { type = refl; only = refl; name = refl; align = refl; plain = refl }
value_says k (Some a) (Some n) None = record { type = refl; only = refl; name = refl; align = refl; plain = refl }
value_says k (Some a) (Some n) (Some o) = record { type = refl; only = refl; name = refl; align = refl; plain = refl }

value_order : (k : ValueKind) (a n o : Option Data) → get_member (codes "order") (valued k a n o) ≡ o
value_order k None None None = refl
value_order k None None (Some o) = refl
value_order k None (Some n) None = refl
value_order k None (Some n) (Some o) = refl
value_order k (Some a) None None = refl
value_order k (Some a) None (Some o) = refl
value_order k (Some a) (Some n) None = refl
value_order k (Some a) (Some n) (Some o) = refl

padding_says : (d : Data) (n : Option Data) → Says type_name.Padding n None (if_any (codes "name") n (member (codes "size") d (typed (codes "padding"))))
padding_says d None = record { type = refl; only = refl; name = refl; align = refl; plain = refl }
padding_says d (Some n) = record { type = refl; only = refl; name = refl; align = refl; plain = refl }

padding_size : (d : Data) (n : Option Data) → get_member (codes "size") (if_any (codes "name") n (member (codes "size") d (typed (codes "padding")))) ≡ Some d
padding_size d None = refl
padding_size d (Some n) = refl

-- the members of a sequence's object
abbrev row : Option Data → Data → Data → Option Data → Members
row a c e n = if_any (codes "align") a (member (codes "count") c (member (codes "element") e (if_any (codes "name") n (typed (codes "sequence")))))

sequence_says : (c e : Data) (a n : Option Data) → Says type_name.Sequence n a (row a c e n)
sequence_says c e None None = record { type = refl; only = refl; name = refl; align = refl; plain = refl }
sequence_says c e None (Some n) = record { type = refl; only = refl; name = refl; align = refl; plain = refl }
sequence_says c e (Some a) None = record { type = refl; only = refl; name = refl; align = refl; plain = refl }
sequence_says c e (Some a) (Some n) = record { type = refl; only = refl; name = refl; align = refl; plain = refl }

sequence_count : (c e : Data) (a n : Option Data) → get_member (codes "count") (row a c e n) ≡ Some c
sequence_count c e None None = refl
sequence_count c e None (Some n) = refl
sequence_count c e (Some a) None = refl
sequence_count c e (Some a) (Some n) = refl

sequence_element : (c e : Data) (a n : Option Data) → get_member (codes "element") (row a c e n) ≡ Some e
sequence_element c e None None = refl
sequence_element c e None (Some n) = refl
sequence_element c e (Some a) None = refl
sequence_element c e (Some a) (Some n) = refl

-- the members of a group's object
abbrev group : List ℕ → Option Data → Data → Option Data → Members
group word a d n = if_any (codes "align") a (member (codes "members") d (if_any (codes "name") n (typed word)))

struct_says : (d : Data) (a n : Option Data) → Says type_name.Struct n a (group (codes "struct") a d n)
struct_says d None None = record { type = refl; only = refl; name = refl; align = refl; plain = refl }
struct_says d None (Some n) = record { type = refl; only = refl; name = refl; align = refl; plain = refl }
struct_says d (Some a) None = record { type = refl; only = refl; name = refl; align = refl; plain = refl }
struct_says d (Some a) (Some n) = record { type = refl; only = refl; name = refl; align = refl; plain = refl }

union_says : (d : Data) (a n : Option Data) → Says type_name.Union n a (group (codes "union") a d n)
union_says d None None = record { type = refl; only = refl; name = refl; align = refl; plain = refl }
union_says d None (Some n) = record { type = refl; only = refl; name = refl; align = refl; plain = refl }
union_says d (Some a) None = record { type = refl; only = refl; name = refl; align = refl; plain = refl }
union_says d (Some a) (Some n) = record { type = refl; only = refl; name = refl; align = refl; plain = refl }

group_members : (word : List ℕ) (d : Data) (a n : Option Data) → get_member (codes "members") (group word a d n) ≡ Some d
group_members word d None None = refl
group_members word d None (Some n) = refl
group_members word d (Some a) None = refl
group_members word d (Some a) (Some n) = refl

-- ---- what they are read as

is_name-IsName : (name : List ℕ) → IsName name → is_name name ≡ true
is_name-IsName [] is = elim is [ ]
is_name-IsName (c ∷ cs) is =
    and_from (is_letter c) (list_all (λ c. is_letter c || is_digit c) cs && nat_le (length (c ∷ cs)) 64) is.0
    (and_from (list_all (λ c. is_letter c || is_digit c) cs) (nat_le (length (c ∷ cs)) 64) (list_all-IsNameEnd cs is.1) (le-leb _ _ is.2))

name_read : (name : Option (List ℕ)) → IsNameIfAny name → node.if_any node.name_of (option_map string name) ≡ Some name
name_read None is = refl
name_read (Some name) is = rw (is_name-IsName name is) refl

within_read : (n : ℕ) → n ≤ limit → whole_of (whole n) ≡ Some n
within_read n small = rw (le-leb n limit small) refl

align_read : (same : Bool) (n : ℕ) → n ≤ limit → node.if_any whole_of (cond same None (Some (whole n))) ≡ Some (cond same None (Some n))
align_read true n small = refl
align_read false n small = rw (within_read n small) refl

order_read : (o : Order) → option_map (λ o. unwrap_or o Little) (node.if_any node.order_of (order_of o)) ≡ Some o
order_read Little = refl
order_read Big = refl

-- an object that says so is this node
node_typed : (t : TypeName) (ms : Members) (n a : Option Data) (content : Content) (name : Option (List ℕ)) (align : Option ℕ) → Says t n a ms
    → content_in t ms ≡ Some content → node.if_any node.name_of n ≡ Some name → align_in t ms ≡ Some align
    → node_of (object ms) ≡ Some (record { content = content; name = name; align = align })
unfolding node_of
node_typed t ms n a content name align says has_content has_name has_align =
    rw (says.type, type_again t, says.only, has_content, says.name, has_name, has_align) refl

-- the members of a struct's or a union's object
abbrev grouped : TypeName → Trees → Label → Members
grouped t ms l = group (type_text t) (align_of (greatest_alignment ms) l) (array (all_json ms)) (name_of l)

-- the object is a node, if it says so
group_said : (t : TypeName) (content : Content) (ms : Trees) (l : Label)
    → Says t (name_of l) (align_of (greatest_alignment ms) l) (grouped t ms l)
    → content_in t (grouped t ms l) ≡ Some content
    → align_in t (grouped t ms l)
    ≡ node.if_any whole_of (get_member (codes "align") (grouped t ms l))
    → IsNameIfAny l.name → l.alignment ≤ limit
    → node_of (object (grouped t ms l))
    ≡ Some (record { content = content; name = l.name; align = unlike (greatest_alignment ms) l })
group_said t content ms l says has aligned named small =
    node_typed t _ (name_of l) (align_of (greatest_alignment ms) l) content l.name (unlike (greatest_alignment ms) l) says has (name_read l.name named)
    (aligned ∙ ap (node.if_any whole_of) says.align ∙ align_read (nat_eq l.alignment (greatest_alignment ms)) l.alignment small)

-- The canonical JSON of a layout is a node that says what the layout is.
pub said : (t : Tree) → IsWellFormed t → HasNames t → AreCountsSmall t → node_of (json_of t) ≡ Some (node_said t)
said (Value k o l) w named small =
    let a = align_of (width_of k) l in
    let n = name_of l in
    let says = value_says k a n (order_of o) in
    node_typed (type_name.Value k) (valued k a n (order_of o)) n a (node.Value k o) l.name (unlike (width_of k) l) says
    (ap (λ x. option_map (node.Value k) (option_map (λ o. unwrap_or o Little) (node.if_any node.order_of x))) (value_order k a n (order_of o))
    ∙ ap (option_map (node.Value k)) (order_read o))
    (name_read l.name named)
    (ap (node.if_any whole_of) says.align ∙ align_read (nat_eq l.alignment (width_of k)) l.alignment w.greatest)
said (Padding size l) w named small =
    let n = name_of l in
    let ms = if_any (codes "name") n (member (codes "size") (whole size) (typed (codes "padding"))) in
    node_typed type_name.Padding ms n None (node.Padding size) l.name None (padding_says (whole size) n)
    (rw (padding_size (whole size) n, within_read size w.0.size) refl)
    (name_read l.name named) refl
said (Sequence count e l) w named small =
    let a = align_of (alignment_of e) l in
    let n = name_of l in
    let says = sequence_says (whole count) (json_of e) a n in
    node_typed type_name.Sequence (row a (whole count) (json_of e) n) n a (node.Sequence count (json_of e)) l.name (unlike (alignment_of e) l) says
    (rw (sequence_count (whole count) (json_of e) a n, within_read count small.0, sequence_element (whole count) (json_of e) a n) refl)
    (name_read l.name named.0)
    (ap (node.if_any whole_of) says.align ∙ align_read (nat_eq l.alignment (alignment_of e)) l.alignment w.0.greatest)
said (Struct ms l) w named small =
    group_said type_name.Struct (node.Struct (list_of (all_json ms))) ms l (struct_says _ _ _)
    (rw (group_members (codes "struct") _ _ _) refl) refl named.0 w.0.greatest
said (Union ms l) w named small =
    group_said type_name.Union (node.Union (list_of (all_json ms))) ms l (union_says _ _ _)
    (rw (group_members (codes "union") _ _ _) refl) refl named.0 w.0.greatest

-- ---- which version they are

without_version : (t : TypeName) (n a : Option Data) (ms : Members) → Says t n a ms → text_of (object ms) ≡ One (object ms)
unfolding text_of
without_version t n a ms says = rw says.plain refl

-- The canonical JSON of a layout is a layout.
pub said_alone : (t : Tree) → text_of (json_of t) ≡ One (json_of t)
said_alone (Value k o l) =
    without_version (type_name.Value k) (name_of l) (align_of (width_of k) l) _ (value_says k (align_of (width_of k) l) (name_of l) (order_of o))
said_alone (Padding n l) = without_version type_name.Padding (name_of l) None _ (padding_says (whole n) (name_of l))
said_alone (Sequence n e l) =
    without_version type_name.Sequence (name_of l) (align_of (alignment_of e) l) _ (sequence_says (whole n) (json_of e) (align_of (alignment_of e) l)
    (name_of l))
said_alone (Struct ms l) =
    without_version type_name.Struct (name_of l) (align_of (greatest_alignment ms) l) _
    (struct_says (array (all_json ms)) (align_of (greatest_alignment ms) l) (name_of l))
said_alone (Union ms l) =
    without_version type_name.Union (name_of l) (align_of (greatest_alignment ms) l) _
    (union_says (array (all_json ms)) (align_of (greatest_alignment ms) l) (name_of l))

-- The JSON that names no types for it has the layout's.
pub said_document : (t : Tree) → text_of (document_json t) ≡ Two (document (json_of t) [])
unfolding text_of
said_document t = refl
