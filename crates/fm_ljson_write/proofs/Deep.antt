-- How deep the canonical JSON nests.
use Rattle.std.proofs.Common.{◌≡◌, refl, ℕ, suc, ◌+◌, ◌*◌, ◌≤◌, List, Option, Some, None, codes, arith}
use Rattle.serde_json.specs.Data.{Data, array, Members, member, depth, items_depth, members_depth}
use Rattle.fm_lanes.specs.{Kind.{width_of}, Named.{kind_text}}
use Rattle.fm_layout.specs.{Depth.{deepest}, Size.{greatest_alignment}}
use Rattle.fm_layout.specs.Tree.{Label, Tree, Trees, Value, Padding, Sequence, Struct, Union, NoMore, More, alignment_of}
use Rattle.fm_layout.specs.Depth as layout
use Rattle.fm_ljson_write.proofs.Maybe.{IsIfAny, IsOfBoth, of_align, of_name, of_order}
use Rattle.fm_ljson_write.specs.Canonical.{align_of, all_json, document_json, if_any, json_of, name_of, order_of, typed, whole}

-- a value that nests in nothing
abbrev IsFlat : Data → Type 0
IsFlat d = depth d ≡ 0

flat : IsOfBoth IsFlat
flat = record { number = λ n. refl; text = λ word. refl }

flat_if_any : (key : List ℕ) (o : Option Data) (later : Members) → IsIfAny IsFlat o → members_depth (if_any key o later) ≡ members_depth later
flat_if_any key None later h = refl
flat_if_any key (Some d) later h = omega (arith, h)

group_depth : (ms : Trees) (word : List ℕ) (l : Label) → members_depth (if_any (codes "align") (align_of (greatest_alignment ms) l)
    (member (codes "members") (array (all_json ms)) (if_any (codes "name") (name_of l) (typed word)))) ≡ suc (items_depth (all_json ms))
group_depth ms word l =
    let inner : members_depth (if_any (codes "name") (name_of l) (typed word)) ≡ 0 = flat_if_any (codes "name") (name_of l) (typed word) (of_name flat l) in
    let outer = flat_if_any (codes "align") (align_of (greatest_alignment ms) l)
    (member (codes "members") (array (all_json ms)) (if_any (codes "name") (name_of l) (typed word))) (of_align flat (greatest_alignment ms) l) in
    omega (arith, inner, outer)

mutual
  -- at most two levels a level of the layout: an object, and perhaps an array
  pub json_depth : (t : Tree) → depth (json_of t) ≤ 2 * layout.depth t
  json_depth (Value k o l) =
      let orders = flat_if_any (codes "order") (order_of o) (typed (kind_text k)) (of_order flat o) in
      let names = flat_if_any (codes "name") (name_of l) (if_any (codes "order") (order_of o) (typed (kind_text k))) (of_name flat l) in
      let aligns = flat_if_any (codes "align") (align_of (width_of k) l)
      (if_any (codes "name") (name_of l) (if_any (codes "order") (order_of o) (typed (kind_text k)))) (of_align flat (width_of k) l) in
      omega (arith, orders, names, aligns)
  json_depth (Padding n l) =
      let names = flat_if_any (codes "name") (name_of l) (member (codes "size") (whole n) (typed (codes "padding"))) (of_name flat l) in
      omega (arith, names)
  json_depth (Sequence n e l) =
      let names = flat_if_any (codes "name") (name_of l) (typed (codes "sequence")) (of_name flat l) in
      let aligns = flat_if_any (codes "align") (align_of (alignment_of e) l)
      (member (codes "count") (whole n) (member (codes "element") (json_of e) (if_any (codes "name") (name_of l) (typed (codes "sequence")))))
      (of_align flat (alignment_of e) l) in
      omega (arith, names, aligns, json_depth e)
  json_depth (Struct ms l) = omega (arith, group_depth ms (codes "struct") l, jsons_depth ms)
  json_depth (Union ms l) = omega (arith, group_depth ms (codes "union") l, jsons_depth ms)

  jsons_depth : (ts : Trees) → items_depth (all_json ts) ≤ 2 * deepest ts
  jsons_depth NoMore = omega arith
  jsons_depth (More t ts) = omega (arith, json_depth t, jsons_depth ts)

-- one level more
pub document_depth : (t : Tree) → depth (document_json t) ≤ 2 * layout.depth t + 2
document_depth t = omega (arith, json_depth t)
