-- What every layout's object has: its type, its name and its alignment.
use Rattle.std.specs.Prelude.{ℕ, List, Option, Some, None, codes}
use Rattle.serde_json.specs.Data.{Data, Members, put}
use Rattle.fm_layout.specs.Tree.{Label}
use Rattle.fm_ljson_write.specs.Canonical.{align_of, if_any, name_of, typed}

-- the members, with d at the key where there is one
abbrev pub put_any : List ℕ → Option Data → Members → Members
put_any key None ms = ms
put_any key (Some d) ms = put key d ms

-- the members of a layout of this word, whose constructor gives this alignment
abbrev pub head : List ℕ → ℕ → Label → Members
head word given l = if_any (codes "align") (align_of given l) (if_any (codes "name") (name_of l) (typed word))
