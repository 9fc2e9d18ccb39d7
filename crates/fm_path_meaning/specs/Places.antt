-- The places of a layout, and the relation that a place stands at steps.
use Rattle.std.{specs.Prelude.{◌≡◌, ℕ, ◌+◌, ◌*◌, ◌≤◌, ◌<◌, ◌⊎◌, ◌≢◌, Some, List, [], ◌∷◌, ◌++◌, map}, proofs.Common.{zero, suc}}
use Rattle.fm_layout.specs.{Tree.{Tree, Trees, Value, Padding, Sequence, Struct, Union, NoMore, More}, Parts.{member_of}, Size.{size_of, member_offset}}

-- one step into a layout
pub data Step : Type 0 where
  Element : (index : ℕ) → Step
  Member : (index : ℕ) → Step

pub record Place : Type 0 where
  pub steps : List Step
  pub offset : ℕ
  pub layout : Tree

abbrev pub here : Tree → Place
here t = record { steps = []; offset = 0; layout = t }

-- a place in a part: the part's step before its steps, the part's offset added
abbrev pub within : Step → ℕ → Place → Place
within step at p = record { steps = step ∷ p.steps; offset = at + p.offset; layout = p.layout }

-- the places of the first n elements
abbrev pub in_elements : ℕ → ℕ → List Place → List Place
in_elements zero bytes ps = []
in_elements (suc n) bytes ps = in_elements n bytes ps ++ map (within (Element n) (n * bytes)) ps

-- every place of a layout
abbrev mutual
  pub places : Tree → List Place
  places (Value k o l) = here (Value k o l) ∷ []
  places (Padding n l) = here (Padding n l) ∷ []
  places (Sequence n e l) = here (Sequence n e l) ∷ in_elements n (size_of e) (places e)
  places (Struct ms l) = here (Struct ms l) ∷ in_members (Struct ms l) 0 ms
  places (Union ms l) = here (Union ms l) ∷ in_members (Union ms l) 0 ms

  -- those of the members of a group from index i on
  pub in_members : Tree → ℕ → Trees → List Place
  in_members group i NoMore = []
  in_members group i (More t ts) = map (within (Member i) (member_offset i group)) (places t) ++ in_members group (i + 1) ts

-- the part of t at this step stands at this offset, and is u
abbrev pub IsPart : Step → Tree → ℕ → Tree → Type 0
IsPart (Element i) (Sequence n e l) at u = (i < n) × (at ≡ i * size_of e) × (u ≡ e)
IsPart (Element i) t at u = ⊥
IsPart (Member i) t at u = (member_of i t ≡ Some u) × (at ≡ member_offset i t)

-- the layout at these steps of t stands at this offset, and is u
abbrev pub IsAt : List Step → Tree → ℕ → Tree → Type 0
IsAt [] t at u = (at ≡ 0) × (u ≡ t)
IsAt (s ∷ ss) t at u = (a : ℕ) × (b : ℕ) × (c : Tree) × IsPart s t a c × IsAt ss c b u × (at ≡ a + b)

-- t is a union
abbrev pub IsUnion : Tree → Type 0
IsUnion (Union ms l) = Unit {0}
IsUnion t = ⊥

-- the first step in which they differ is at a union
abbrev pub PartsAtUnion : List Step → List Step → Tree → Type 0
PartsAtUnion (s ∷ ss) (r ∷ rs) t = ((s ≢ r) × IsUnion t) ⊎ ((s ≡ r) × (at : ℕ) × (u : Tree) × IsPart s t at u × PartsAtUnion ss rs u)
PartsAtUnion ss rs t = ⊥

-- the ranges share no byte, or are one place's, or are parted by a union
pub data Apart (ss rs : List Step) (t : Tree) (a m b n : ℕ) : Type 0 where
  One : ss ≡ rs → Apart ss rs t a m b n
  In_union : PartsAtUnion ss rs t → Apart ss rs t a m b n
  First : a + m ≤ b → Apart ss rs t a m b n
  Second : b + n ≤ a → Apart ss rs t a m b n
