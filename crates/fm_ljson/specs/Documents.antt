-- The text that names types: its version, the types that it names in order, and the layout.
use Rattle.std.specs.Prelude.{ℕ, ◌+◌, Bool, ◌&&◌, false, Option, Some, None, is_some, List, [], ◌∷◌, length, codes, nat_eq, nat_lt, if◌then◌else◌, option_map, option_and_then}
use Rattle.serde_json.specs.{Data.{Data, Members}, Find.{as_number, as_object, as_u64, get_member}}
use Rattle.fm_ljson.specs.{Node.{has_only, members_in, name_of, required}, Nodes.{first_broken, most_written_levels, most_written_nodes, nodes}}
use Rattle.fm_ljson.specs.{Refs.{also_known}, Types.{keys_in}}
use Rattle.fm_ljson.specs.declared.role.Role.TheVariants as role

pub record Document : Type 0 where
  pub types : List Data
  pub layout : Data

abbrev pub document : Data → List Data → Document
document layout types = record { types = types; layout = layout }

-- the number is 2
abbrev pub is_two : Option ℕ → Bool
is_two None = false
is_two (Some n) = nat_eq n 2

abbrev pub unsigned_of : Data → Option ℕ
unsigned_of d = option_and_then as_u64 (as_number d)

abbrev pub document_with : Members → Data → Option Document
document_with ms layout = option_map (document layout) (required members_in (codes "types") ms)

-- the root has exactly these three keys, and the version is 2
abbrev pub document_in : Members → Option Document
document_in ms =
    if has_only (keys_in role.Document) ms && is_two (required unsigned_of (codes "version") ms)
    then option_and_then (document_with ms) (get_member (codes "layout") ms)
    else None

-- ---- which version it is

pub data Text : Type 0 where
  One : (layout : Data) → Text
  Two : (document : Document) → Text
  -- it has a version, and breaks a rule of that
  Neither : Text

abbrev pub versioned : Option Document → Text
versioned None = Neither
versioned (Some x) = Two x

abbrev pub text_in : Data → Members → Text
text_in d ms = if is_some (get_member (codes "version") ms) then versioned (document_in ms) else One d

abbrev pub text_by : Data → Option Members → Text
text_by d None = One d
text_by d (Some ms) = text_in d ms

-- an object with the key `version` names types, and anything else is a layout
unfoldable pub text_of : Data → Text
text_of d = text_by d (as_object d)

-- ---- types

-- what is defined, and the layout
pub record Entry : Type 0 where
  pub name : List ℕ
  pub layout : Data

abbrev pub entry : Data → List ℕ → Entry
entry layout name = record { name = name; layout = layout }

abbrev pub entry_with : Members → Data → Option Entry
entry_with ms layout = option_map (entry layout) (required name_of (codes "define") ms)

abbrev pub entry_in : Members → Option Entry
entry_in ms = if has_only (keys_in role.Entry) ms then option_and_then (entry_with ms) (get_member (codes "layout") ms) else None

-- what this says as an entry; nothing where it breaks a rule of its own
unfoldable pub entry_of : Data → Option Entry
entry_of d = option_and_then entry_in (as_object d)

abbrev pub unless_known : (List ℕ → Bool) → Entry → Option Entry
unless_known known e = if known e.name then None else Some e

-- an entry that may stand as node n behind those that define these names: what it defines, none of them does
abbrev pub new_entry : (List ℕ → Bool) → ℕ → Data → Option Entry
new_entry known n d = if nat_lt n most_written_nodes then option_and_then (unless_known known) (entry_of d) else None

-- ---- numbers

-- the first, if any, or else the other
abbrev pub first_of : Option ℕ → Option ℕ → Option ℕ
first_of None other = other
first_of (Some n) other = Some n

abbrev pub written_nodes : Data → List (ℕ × Data)
written_nodes d = nodes most_written_levels d

-- the number of the node behind a layout whose root has number n
abbrev pub behind : ℕ → Data → ℕ
behind n d = n + length (written_nodes d)

-- the first node of this layout that breaks a rule, where its root has number n
abbrev pub broken_at : (List ℕ → Bool) → ℕ → Data → Option ℕ
broken_at known n d = first_broken known most_written_nodes n (written_nodes d)

abbrev pub at_entry : ℕ → Option Entry → (Entry → Option ℕ) → Option ℕ
at_entry n None rest = Some n
at_entry n (Some e) rest = rest e

-- The first node that breaks a rule, where the entries are counted from n: each entry is followed by the nodes of its
-- layout, in which the names of earlier entries are known, and the last by the nodes of `layout`.
abbrev pub first_broken_of : (List ℕ → Bool) → ℕ → List Data → Data → Option ℕ
first_broken_of known n [] layout = broken_at known n layout
first_broken_of known n (d ∷ ds) layout =
    at_entry n (new_entry known n d)
    (λ e. first_of (broken_at known (n + 1) e.layout) (first_broken_of (also_known e.name known) (behind (n + 1) e.layout) ds layout))

-- an entry, and the number of its layout's root
pub record Numbered : Type 0 where
  pub name : List ℕ
  pub layout : Data
  pub number : ℕ

abbrev pub numbered : ℕ → Entry → Numbered
numbered n e = record { name = e.name; layout = e.layout; number = n }

-- the entries, and the number of the root of `layout` behind them
pub record Parts : Type 0 where
  pub entries : List Numbered
  pub number : ℕ

abbrev pub before : Numbered → Parts → Parts
before e c = record { entries = e ∷ c.entries; number = c.number }

abbrev pub parts_at : ℕ → Option Entry → (ℕ → Parts) → Parts
parts_at n None rest = rest (n + 1)
parts_at n (Some e) rest = before (numbered (n + 1) e) (rest (behind (n + 1) e.layout))

-- these entries, counted from n
abbrev pub parts_from : ℕ → List Data → Parts
parts_from n [] = record { entries = []; number = n }
parts_from n (d ∷ ds) = parts_at n (entry_of d) (λ m. parts_from m ds)
