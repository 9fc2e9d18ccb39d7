-- A ref stands for a copy of the type that it names.
use Rattle.std.specs.Prelude.{ℕ, Bool, true, false, ◌&&◌, Option, Some, None, List, codes, bytes_eq, if◌then◌else◌, option_map, option_and_then}
use Rattle.serde_json.specs.{Data.{Data, Members}, Find.{as_object, as_str}}
use Rattle.fm_ljson.specs.{Node.{has_only, name_of, optional, required}, Types.{keys_in}}
use Rattle.fm_ljson.specs.declared.role.Role.TheVariants as role

-- the name of the type, and the name that the copy gets
pub record Ref : Type 0 where
  pub of : List ℕ
  pub name : Option (List ℕ)

abbrev pub ref : List ℕ → Option (List ℕ) → Ref
ref of name = record { of = of; name = name }

-- whether a text is this word
abbrev pub is_word : List ℕ → Option (List ℕ) → Bool
is_word word None = false
is_word word (Some text) = bytes_eq text word

-- the type is `ref`
abbrev pub says_ref : Members → Bool
says_ref ms = is_word (codes "ref") (required as_str (codes "type") ms)

abbrev pub ref_named : Members → List ℕ → Option Ref
ref_named ms of = option_map (ref of) (optional name_of (codes "name") ms)

abbrev pub ref_in : Members → Option Ref
ref_in ms =
    if has_only (keys_in role.Ref) ms && says_ref ms
    then option_and_then (ref_named ms) (required as_str (codes "of") ms)
    else None

-- what this says as a ref; nothing where it isn't one
unfoldable pub ref_of : Data → Option Ref
ref_of d = option_and_then ref_in (as_object d)

-- ---- which names are known, and of what

-- none
abbrev pub none_known : List ℕ → Bool
none_known name = false

-- this one too
abbrev pub also_known : List ℕ → (List ℕ → Bool) → List ℕ → Bool
also_known name known other = if bytes_eq name other then true else known other

-- nothing is known of any name
abbrev pub unknown : {A : Type 0} → List ℕ → Option A
unknown name = None

-- of this name a is known
abbrev pub knowing : {A : Type 0} → List ℕ → A → (List ℕ → Option A) → List ℕ → Option A
knowing name a known other = if bytes_eq name other then Some a else known other

-- a ref to a known name
abbrev pub is_known_ref : (List ℕ → Bool) → Option Ref → Bool
is_known_ref known None = false
is_known_ref known (Some r) = known r.of
