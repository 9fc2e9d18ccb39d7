-- The canonical JSON of a layout: only what a constructor doesn't give by itself is written, and keys stand in byte order.
use Rattle.std.specs.Prelude.{◌≡◌, ◌⊎◌, ℕ, List, Option, Some, None, option_map, codes, nat_eq, if◌then◌else◌}
use Rattle.serde_json.specs.{Data.{Data, number, unsigned, string, array, object, Items, no_items, item, Members, no_members, member}, Written.{compact_text}}
use Rattle.fm_lanes.specs.{declared.order.Order.{Order, TheVariants.{Little, Big}}, Kind.{width_of}, Named.{kind_text, order_text}}
use Rattle.fm_layout.specs.{Tree.{Label, Tree, Trees, Value, Padding, Sequence, Struct, Union, NoMore, More, alignment_of}, Size.{greatest_alignment}}

abbrev pub whole : ℕ → Data
whole n = number (unsigned n)

-- a member that stands there only where it has something to say
abbrev pub if_any : List ℕ → Option Data → Members → Members
if_any key None later = later
if_any key (Some d) later = member key d later

-- the alignment, where it isn't the one that the constructor gives
abbrev pub align_of : ℕ → Label → Option Data
align_of given l = if nat_eq l.alignment given then None else Some (whole l.alignment)

abbrev pub order_of : Order → Option Data
order_of Little = None
order_of Big = Some (string (order_text Big))

abbrev pub name_of : Label → Option Data
name_of l = option_map string l.name

abbrev pub typed : List ℕ → Members
typed word = member (codes "type") (string word) no_members

abbrev mutual
  pub json_of : Tree → Data
  json_of (Value k o l) =
      object (if_any (codes "align") (align_of (width_of k) l) (if_any (codes "name") (name_of l)
      (if_any (codes "order") (order_of o) (typed (kind_text k)))))
  json_of (Padding n l) =
      object (if_any (codes "name") (name_of l) (member (codes "size") (whole n) (typed (codes "padding"))))
  json_of (Sequence n e l) =
      object (if_any (codes "align") (align_of (alignment_of e) l) (member (codes "count") (whole n)
      (member (codes "element") (json_of e) (if_any (codes "name") (name_of l) (typed (codes "sequence"))))))
  json_of (Struct ms l) =
      object (if_any (codes "align") (align_of (greatest_alignment ms) l) (member (codes "members") (array (all_json ms))
      (if_any (codes "name") (name_of l) (typed (codes "struct")))))
  json_of (Union ms l) =
      object (if_any (codes "align") (align_of (greatest_alignment ms) l) (member (codes "members") (array (all_json ms))
      (if_any (codes "name") (name_of l) (typed (codes "union")))))

  pub all_json : Trees → Items
  all_json NoMore = no_items
  all_json (More t ts) = item (json_of t) (all_json ts)

-- the canonical text, with no space
abbrev pub canonical_text : Tree → List ℕ
canonical_text t = compact_text (json_of t)

-- ---- the text that may name types

-- it names none
abbrev pub document_json : Tree → Data
document_json t =
    object (member (codes "layout") (json_of t) (member (codes "types") (array no_items) (member (codes "version") (whole 2) no_members)))

abbrev pub document_text : Tree → List ℕ
document_text t = compact_text (document_json t)

-- the value is one of the two
abbrev pub StandsFor : Data → Tree → Type 0
StandsFor d t = (d ≡ json_of t) ⊎ (d ≡ document_json t)
