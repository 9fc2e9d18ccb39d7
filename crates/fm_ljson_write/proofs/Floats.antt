-- No float stands in the canonical JSON.
use Rattle.std.proofs.Common.{◌≡◌, refl, ℕ, false, List, Option, Some, None, codes}
use Rattle.serde_json.specs.{Data.{Data, Members, member}, Written.{has_float, items_have_float, members_have_float}}
use Rattle.fm_layout.specs.{Tree.{Label, Tree, Trees, Value, Padding, Sequence, Struct, Union, NoMore, More, alignment_of}, Size.{greatest_alignment}}
use Rattle.fm_lanes.specs.{Kind.{width_of}, Named.{kind_text}}
use Rattle.fm_ljson_write.proofs.Maybe.{IsIfAny, IsOfBoth, of_align, of_name, of_order}
use Rattle.fm_ljson_write.specs.Canonical.{align_of, all_json, document_json, if_any, json_of, name_of, order_of, typed, whole}

abbrev HasNone : Data → Type 0
HasNone d = has_float d ≡ false

none : IsOfBoth HasNone
none = record { number = λ n. refl; text = λ word. refl }

none_if_any : (key : List ℕ) (o : Option Data) (later : Members) → IsIfAny HasNone o → members_have_float later ≡ false
    → members_have_float (if_any key o later) ≡ false
none_if_any key None later h rest = rest
none_if_any key (Some d) later h rest = rw (h, rest) refl

none_member : (key : List ℕ) (d : Data) (later : Members) → has_float d ≡ false → members_have_float later ≡ false
    → members_have_float (member key d later) ≡ false
none_member key d later h rest = rw (h, rest) refl

none_group : (ms : Trees) (word : List ℕ) (l : Label) → items_have_float (all_json ms) ≡ false
    → members_have_float (if_any (codes "align") (align_of (greatest_alignment ms) l)
    (member (codes "members") (Data.array (all_json ms)) (if_any (codes "name") (name_of l) (typed word)))) ≡ false
none_group ms word l h =
    none_if_any (codes "align") (align_of (greatest_alignment ms) l)
    (member (codes "members") (Data.array (all_json ms)) (if_any (codes "name") (name_of l) (typed word))) (of_align none (greatest_alignment ms) l)
    (none_member (codes "members") (Data.array (all_json ms)) (if_any (codes "name") (name_of l) (typed word)) h
    (none_if_any (codes "name") (name_of l) (typed word) (of_name none l) refl))

mutual
  pub no_float : (t : Tree) → has_float (json_of t) ≡ false
  no_float (Value k o l) =
      none_if_any (codes "align") (align_of (width_of k) l) (if_any (codes "name") (name_of l) (if_any (codes "order") (order_of o) (typed (kind_text k))))
      (of_align none (width_of k) l)
      (none_if_any (codes "name") (name_of l) (if_any (codes "order") (order_of o) (typed (kind_text k))) (of_name none l)
      (none_if_any (codes "order") (order_of o) (typed (kind_text k)) (of_order none o) refl))
  no_float (Padding n l) =
      none_if_any (codes "name") (name_of l) (member (codes "size") (whole n) (typed (codes "padding"))) (of_name none l) refl
  no_float (Sequence n e l) =
      none_if_any (codes "align") (align_of (alignment_of e) l)
      (member (codes "count") (whole n) (member (codes "element") (json_of e) (if_any (codes "name") (name_of l) (typed (codes "sequence")))))
      (of_align none (alignment_of e) l)
      (none_member (codes "element") (json_of e) (if_any (codes "name") (name_of l) (typed (codes "sequence"))) (no_float e)
      (none_if_any (codes "name") (name_of l) (typed (codes "sequence")) (of_name none l) refl))
  no_float (Struct ms l) = none_group ms (codes "struct") l (no_floats ms)
  no_float (Union ms l) = none_group ms (codes "union") l (no_floats ms)

  no_floats : (ts : Trees) → items_have_float (all_json ts) ≡ false
  no_floats NoMore = refl
  no_floats (More t ts) = rw (no_float t, no_floats ts) refl

pub no_float_document : (t : Tree) → has_float (document_json t) ≡ false
no_float_document t = rw (no_float t) refl
