-- What is known of types that are not built.
use Rattle.std.specs.Prelude.{◌≡◌, ℕ, ◌<◌, ◌≤◌, Bool, false, [], ◌∷◌, Option, Some, None, IfSome, Result, Ok, List, if◌then◌else◌, nat_lt, option_copied}
use Rattle.serde_json.specs.{View.{view}}
use Rattle.fm_base.specs.declared.refusal.Refusal.{Refusal}
use Rattle.fm_layout.specs.{Tree.{Tree}, Named.{IsNameIfAny}}
use Rattle.fm_ljson.specs.{Built.{built, renamed}, Documents.{Numbered}, Footprints.{IsFootprint}, Nodes.{most_written_levels}, Refs.{also_known}}
use Rattle.fm_ljson.specs.declared.known.Known.{Known}

-- the last of two names that are given one after the other
abbrev pub last_of : Option (List ℕ) → Option (List ℕ) → Option (List ℕ)
last_of None first = first
last_of (Some name) first = Some name

-- ---- without layouts

-- its refs are to earlier types, and its name is one
pub record IsSafe (k : Known) : Type 0 where
  pub before : k.before ≤ k.place
  pub named : IsNameIfAny (option_copied k.name)

abbrev pub AreSafe : (List ℕ → Option Known) → Type 0
AreSafe types = (name : List ℕ) → IfSome (types name) IsSafe

-- there are at most n types
abbrev pub AreBelow : ℕ → (List ℕ → Option Known) → Type 0
AreBelow n types = (name : List ℕ) → IfSome (types name) (λ k. k.place < n)

-- ---- with the layouts that building them would give

abbrev pub seen : ℕ → Option Known → Option Tree → Option Tree
seen n None t = None
seen n (Some k) t = if nat_lt k.place n then t else None

-- the layouts of the first n types
abbrev pub earlier : ℕ → (List ℕ → Option Known) → (List ℕ → Option Tree) → List ℕ → Option Tree
earlier n types trees name = seen n (types name) (trees name)

-- Building it behind the types before it would give this layout, of which it has the footprint.
pub record IsKnown (types : List ℕ → Option Known) (trees : List ℕ → Option Tree) (k : Known) (t : Tree) : Type 0 where
  pub made : renamed (option_copied k.name) (built (earlier k.before types trees) most_written_levels (view k.layout.now)) ≡ Ok t
  pub footprint : IsFootprint k.footprint t

abbrev pub IsKnownIfAny : (List ℕ → Option Known) → (List ℕ → Option Tree) → Option Known → Option Tree → Type 0
IsKnownIfAny types trees None None = Unit {0}
IsKnownIfAny types trees (Some k) (Some t) = IsKnown types trees k t
IsKnownIfAny types trees None (Some t) = ⊥
IsKnownIfAny types trees (Some k) None = ⊥

-- these are the layouts that building the types would give
abbrev pub AreKnown : (List ℕ → Option Known) → (List ℕ → Option Tree) → Type 0
AreKnown types trees = (name : List ℕ) → IsKnownIfAny types trees (types name) (trees name)

-- each type is safe, and known of some layout
pub record CanBuild (types : List ℕ → Option Known) : Type 0 where
  pub safe : AreSafe types
  pub trees : List ℕ → Option Tree
  pub known : AreKnown types trees

-- this is what building gives, and that is known so
pub record IsLearnt (types : List ℕ → Option Known) (trees : List ℕ → Option Tree) (k : Known) (s : Result Tree Refusal) : Type 0 where
  pub tree : Tree
  pub there : s ≡ Ok tree
  pub known : IsKnown types trees k tree

-- ---- names

-- each entry's name is none of the known ones, nor that of an earlier entry
abbrev pub AreNew : (List ℕ → Bool) → List Numbered → Type 0
AreNew known [] = Unit {0}
AreNew known (e ∷ es) = (known e.name ≡ false) × AreNew (also_known e.name known) es
