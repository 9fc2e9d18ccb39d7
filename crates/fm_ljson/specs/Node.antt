-- What a layout object says by itself, where it breaks no rule of its own.
use Rattle.std.specs.Prelude.{ℕ, Bool, true, ◌&&◌, ◌||◌, false, Option, Some, None, List, [], ◌∷◌, length, codes, nat_le, if◌then◌else◌, option_map, option_and_then, unwrap_or}
use Rattle.std.specs.List.{list_all}
use Rattle.serde_json.specs.{Data.{Data, Items, no_items, item, Members, no_members, member}, Find.{as_array, as_number, as_object, as_str, as_u64, get_member}}
use Rattle.fm_lanes.specs.{declared.{order.Order.{Order, TheVariants.{Little}}, value_kind.ValueKind.{ValueKind}}, Named.{order_named}}
use Rattle.fm_layout.specs.{Name.{is_digit, is_letter}, WellFormed.{limit}}
use Rattle.fm_ljson.specs.{declared.type_name.TypeName.{TypeName}, Types.{is_among, keys_of, type_named}}
use Rattle.fm_ljson.specs.declared.type_name.TypeName.TheVariants as type_name

-- what a layout is: its type, and what its type's own keys say
pub data Content : Type 0 where
  Value : (kind : ValueKind) → (order : Order) → Content
  Padding : (size : ℕ) → Content
  Sequence : (count : ℕ) → (element : Data) → Content
  Struct : (members : List Data) → Content
  Union : (members : List Data) → Content

pub record Node : Type 0 where
  pub content : Content
  pub name : Option (List ℕ)
  pub align : Option ℕ

-- ---- the values of keys

abbrev pub within : ℕ → Option ℕ
within n = if nat_le n limit then Some n else None

-- a whole number up to 2^40, in decimal digits alone: what has a sign, a point or an exponent is no unsigned number
abbrev pub whole_of : Data → Option ℕ
whole_of d = option_and_then within (option_and_then as_u64 (as_number d))

-- whether the text is a name
abbrev pub is_name : List ℕ → Bool
is_name [] = false
is_name (c ∷ cs) = is_letter c && (list_all (λ c. is_letter c || is_digit c) cs && nat_le (length (c ∷ cs)) 64)

abbrev pub name_in : List ℕ → Option (List ℕ)
name_in text = if is_name text then Some text else None

abbrev pub name_of : Data → Option (List ℕ)
name_of d = option_and_then name_in (as_str d)

abbrev pub order_of : Data → Option Order
order_of d = option_and_then order_named (as_str d)

abbrev pub type_of : Data → Option TypeName
type_of d = option_and_then type_named (as_str d)

abbrev pub list_of : Items → List Data
list_of no_items = []
list_of (item d ds) = d ∷ list_of ds

abbrev pub members_in : Data → Option (List Data)
members_in d = option_map list_of (as_array d)

-- ---- keys

-- the value at a key that has to be there
abbrev pub required : {A : Type 0} → (Data → Option A) → List ℕ → Members → Option A
required value key ms = option_and_then value (get_member key ms)

-- the value, if any
abbrev pub if_any : {A : Type 0} → (Data → Option A) → Option Data → Option (Option A)
if_any value None = Some None
if_any value (Some d) = option_map Some (value d)

-- the value at a key, if the key is there
abbrev pub optional : {A : Type 0} → (Data → Option A) → List ℕ → Members → Option (Option A)
optional value key ms = if_any value (get_member key ms)

-- all keys are among these
abbrev pub has_only : List (List ℕ) → Members → Bool
has_only keys no_members = true
has_only keys (member k d ms) = is_among keys k && has_only keys ms

-- ---- objects

-- little, unless it says otherwise
abbrev pub order_in : Members → Option Order
order_in ms = option_map (λ o. unwrap_or o Little) (optional order_of (codes "order") ms)

abbrev pub content_in : TypeName → Members → Option Content
content_in (type_name.Value k) ms = option_map (Value k) (order_in ms)
content_in type_name.Padding ms = option_map Padding (required whole_of (codes "size") ms)
content_in type_name.Sequence ms =
    option_and_then (λ n. option_map (Sequence n) (get_member (codes "element") ms)) (required whole_of (codes "count") ms)
content_in type_name.Struct ms = option_map Struct (required members_in (codes "members") ms)
content_in type_name.Union ms = option_map Union (required members_in (codes "members") ms)

-- padding has no alignment but 1
abbrev pub align_in : TypeName → Members → Option (Option ℕ)
align_in type_name.Padding ms = Some None
align_in t ms = optional whole_of (codes "align") ms

abbrev pub node : Content → Option (List ℕ) → Option ℕ → Node
node content name align = record { content = content; name = name; align = align }

abbrev pub node_of_type : Members → TypeName → Option Node
node_of_type ms t =
    if has_only (keys_of t) ms
    then option_and_then (λ content.
    option_and_then (λ name.
    option_map (node content name) (align_in t ms))
    (optional name_of (codes "name") ms))
    (content_in t ms)
    else None

abbrev pub node_in : Members → Option Node
node_in ms = option_and_then (node_of_type ms) (required type_of (codes "type") ms)

-- what this says as a node; nothing where it breaks a rule of its own
unfoldable pub node_of : Data → Option Node
node_of d = option_and_then node_in (as_object d)

-- ---- parts

abbrev pub parts_in : Content → List Data
parts_in (Value k o) = []
parts_in (Padding n) = []
parts_in (Sequence n e) = e ∷ []
parts_in (Struct ms) = ms
parts_in (Union ms) = ms

abbrev pub parts_of_node : Option Node → List Data
parts_of_node None = []
parts_of_node (Some n) = parts_in n.content

-- the members of a node in order, or its element; none of a node that breaks a rule
abbrev pub parts_of : Data → List Data
parts_of d = parts_of_node (node_of d)
