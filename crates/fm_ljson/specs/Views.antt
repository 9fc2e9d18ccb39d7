-- What is said by what refers into a value.
use Rattle.std.specs.{Prelude.{Option, Some, None, String, map, option_copied}, BTreeMap.{BTreeMap}, declared.alloc.Global.{Global}}
use Rattle.serde_json.specs.{Data.{Members}, View.{members_view, view}}
use Rattle.serde_json.specs.declared.value.Value as json
use Rattle.fm_ljson.specs.{Node.{Content, Node}, declared.node.ContentRef.{ContentRef, TheVariants.{Value, Padding, Sequence, Struct, Union}}}
use Rattle.fm_ljson.specs.{declared.node.NodeRef.{NodeRef}, Documents.{Document, Entry, Numbered, Parts, Text}, Refs.{Ref}}
use Rattle.fm_ljson.specs.declared.document.{DocumentRef.{DocumentRef}, EntryRef.{EntryRef}, TextRef.{TextRef, TheVariants.{One, Two, Neither}}}
use Rattle.fm_ljson.specs.declared.{refs.TypeRef.{TypeRef}, types.{NumberedRef.{NumberedRef}, PartsRef.{PartsRef}}}
use Rattle.fm_ljson.specs.Node as node
use Rattle.fm_ljson.specs.Documents as document

-- the members of an object
abbrev pub object_view : BTreeMap (String Global) json.Value → Members
object_view m = members_view m.entries

abbrev pub content_view : ContentRef → Content
content_view (Value k o) = node.Value k o
content_view (Padding n) = node.Padding n
content_view (Sequence n e) = node.Sequence n (view e.now)
content_view (Struct ms) = node.Struct (map view ms.now)
content_view (Union ms) = node.Union (map view ms.now)

abbrev pub node_view : NodeRef → Node
node_view n = record { content = content_view n.content; name = option_copied n.name; align = n.align }

abbrev pub IsPaddingContent : Content → Type 0
IsPaddingContent (node.Padding n) = Unit {0}
IsPaddingContent c = ⊥

-- the layout may be given this alignment, if any: padding may not
abbrev pub MayBeAligned : {A : Type 0} → Option A → Type 0 → Type 0
MayBeAligned None P = Unit {0}
MayBeAligned (Some n) P = ¬ P

abbrev pub ref_view : TypeRef → Ref
ref_view r = record { of = r.of.now; name = option_copied r.name }

abbrev pub document_view : DocumentRef → Document
document_view x = record { types = map view x.types.now; layout = view x.layout.now }

abbrev pub text_view : TextRef → Text
text_view (One v) = document.One (view v.now)
text_view (Two x) = document.Two (document_view x)
text_view Neither = document.Neither

abbrev pub entry_view : EntryRef → Entry
entry_view e = record { name = e.name.now; layout = view e.layout.now }

abbrev pub numbered_view : NumberedRef → Numbered
numbered_view e = record { name = e.name.now; layout = view e.layout.now; number = e.number }

abbrev pub parts_view : PartsRef → Parts
parts_view p = record { entries = map numbered_view p.entries.items; number = p.number }
