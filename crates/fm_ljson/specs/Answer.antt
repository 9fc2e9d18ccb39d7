-- What reading a layout from JSON answers, unless memory runs out.
use Rattle.std.specs.{Prelude.{ℕ, Option, Some, None, Result, Err, List, if◌then◌else◌}, Str.{is_utf8}}
use Rattle.serde_json.specs.{Data.{Data}, Read.{read}}
use Rattle.fm_base.specs.declared.refusal.Refusal.{Refusal, TheVariants.{BadJson, BadShape}}
use Rattle.fm_layout.specs.Tree.{Tree}
use Rattle.fm_ljson.specs.{Built.{built, built_of}, Documents.{Document, Text, One, Two, Neither, first_broken_of, first_of, text_of}, Measured.{large_of}}
use Rattle.fm_ljson.specs.{Nodes.{first_broken, most_levels, most_nodes, nodes}, Refs.{none_known, unknown}}

-- the first node that breaks a rule, or else the root of the first layout that is too large
abbrev pub fault_in_document : Document → Option ℕ
fault_in_document x = first_of (first_broken_of none_known 1 x.types x.layout) (large_of x)

-- the number of the node for which a text is refused
abbrev pub fault_in : Text → Option ℕ
fault_in (One d) = first_broken none_known most_nodes 0 (nodes most_levels d)
fault_in (Two x) = fault_in_document x
fault_in Neither = Some 0

-- what is built of a text that isn't
abbrev pub made_of : Text → Result Tree Refusal
made_of (One d) = built unknown most_levels d
made_of (Two x) = built_of x
made_of Neither = Err (BadShape 0)

-- the node that is refused, or else what is built
abbrev pub shaped : Option ℕ → Result Tree Refusal → Result Tree Refusal
shaped None r = r
shaped (Some n) r = Err (BadShape n)

abbrev pub layout_of_text : Text → Result Tree Refusal
layout_of_text text = shaped (fault_in text) (made_of text)

abbrev pub layout_of_data : Data → Result Tree Refusal
layout_of_data d = layout_of_text (text_of d)

abbrev pub layout_if_read : Option Data → Result Tree Refusal
layout_if_read None = Err BadJson
layout_if_read (Some d) = layout_of_data d

-- the layout of these bytes: they have to be UTF-8, have a value, which nests at most 127 levels, and be a layout
abbrev pub layout_of_json : List ℕ → Result Tree Refusal
layout_of_json bytes = if is_utf8 bytes then layout_if_read (read bytes) else Err BadJson
