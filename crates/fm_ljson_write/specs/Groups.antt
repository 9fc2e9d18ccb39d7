-- The members of a layout, none where it has none, and the JSON of a group of this word.
use Rattle.std.specs.Prelude.{List, ℕ, codes}
use Rattle.serde_json.specs.Data.{Data, array, object, member}
use Rattle.fm_layout.specs.{Tree.{Label, Tree, Trees, Struct, Union, NoMore}, Size.{greatest_alignment}}
use Rattle.fm_ljson_write.specs.Canonical.{all_json, align_of, if_any, name_of, typed}

abbrev pub members_of : Tree → Trees
members_of (Struct ms l) = ms
members_of (Union ms l) = ms
members_of t = NoMore

abbrev pub group_json : List ℕ → Trees → Label → Data
group_json word ms l =
    object (if_any (codes "align") (align_of (greatest_alignment ms) l) (member (codes "members") (array (all_json ms))
    (if_any (codes "name") (name_of l) (typed word))))
