-- What following a path finds: the place, the bytes it touches, or why the path is refused.
use Rattle.std.specs.Prelude.{◌≡◌, ℕ, ◌+◌, ◌-◌, ◌^◌, ◌<◌, ◌≤◌, ◌⊎◌, min, pos, Some, Result, Ok, Err, List, [], ◌∷◌}
use Rattle.fm_base.specs.declared.refusal.Refusal.{Refusal, TheVariants.{IndexOut}}
use Rattle.fm_layout.specs.{Tree.{Tree}, Size.{size_of}, Parts.{IsValue}}
use Rattle.fm_path_text.specs.declared.step.PathStep.{PathStep, TheVariants.{Each, EachFrom}}
use Rattle.fm_path_meaning.specs.{declared.dim.Dim.{Dim}, Places.{Step, places}, Walk.{stride_of, walk}}
use Rattle.fm_path_meaning.specs.Follow.{row_of, IsAdmitted, Lead, lead, lead_closed, end_at, ◌>>=◌, follow, follow_closed}
use Rattle.fm_base_lists.specs.Among.{IsAmong}

-- these steps lead to the place of this offset and layout
abbrev pub IsPlace : List Step → ℕ → Tree → Tree → Type 0
IsPlace steps at u t = IsAmong (record { steps = steps; offset = at; layout = u }) (places t)

-- with these indices the path comes to the place of this offset and layout
pub record Finds (path : List PathStep) (t : Tree) (is : List ℕ) (at : ℕ) (u : Tree) : Type 0 where
  pub steps : List Step
  pub follows : follow path t is ≡ Ok steps
  pub listed : IsPlace steps at u t

-- the same, where no step may be left open
pub record FindsClosed (path : List PathStep) (t : Tree) (at : ℕ) (u : Tree) : Type 0 where
  pub steps : List Step
  pub follows : follow_closed path t ≡ Ok steps
  pub listed : IsPlace steps at u t

-- the stride of a step that is left open, over elements of so many bytes: none where there is no second index
abbrev pub IsStride : PathStep → ℕ → Dim → Type 0
IsStride Each bytes d = d.stride ≡ pos bytes
IsStride (EachFrom f s) bytes d = d.stride ≡ stride_of s bytes d.bound
IsStride p bytes d = ⊥

-- the dim of a step that is left open: below its bound are just the indices that are admitted
pub record IsDimOf (p : PathStep) (count : ℕ) (element : Tree) (d : Dim) : Type 0 where
  pub below : (i : ℕ) → i < d.bound → IsAdmitted p count i
  pub all : (i : ℕ) → IsAdmitted p count i → i < d.bound
  pub stride : IsStride p (size_of element) d

-- a dim for each step of the path that is left open, in their order
pub data HasDims : List PathStep → Tree → List Dim → Type 0 where
  no_step : {t : Tree} → HasDims [] t []
  closed_step : {p : PathStep} {ps : List PathStep} {t : Tree} {ds : List Dim} → (k : ℕ) → (l : Lead) → lead_closed k p t ≡ Ok l
      → HasDims ps (end_at l) ds → HasDims (p ∷ ps) t ds
  open_step : {p : PathStep} {ps : List PathStep} {t : Tree} {d : Dim} {ds : List Dim} → (count : ℕ) → (e : Tree) → row_of t ≡ Some (count, e)
      → IsDimOf p count e d → HasDims ps e ds → HasDims (p ∷ ps) t (d ∷ ds)

-- one pass over the path comes to this offset, as far as 64 bits go, to these dims and to this layout
pub record LeadsTo (path : List PathStep) (t : Tree) (offset : ℕ) (dims : List Dim) (u : Tree) : Type 0 where
  pub whole : ℕ
  pub kept : offset ≡ min whole (2 ^ 64 - 1)
  pub walked : walk path t ≡ Ok (record { offset = whole; dims = dims; last = u })

-- the bytes that the path touches with these indices: those of the value that it comes to
abbrev pub Touches : List PathStep → Tree → List ℕ → ℕ → Type 0
Touches path t is byte = (at : ℕ) × (u : Tree) × Finds path t is at u × IsValue u × (at ≤ byte) × (byte < at + size_of u)

-- the layout that the path ends at, which no index changes, or the first step's refusal
abbrev pub end_from : List PathStep → ℕ → Tree → Result Tree Refusal
end_from [] k t = Ok t
end_from (p ∷ ps) k t = lead k p t >>= λ l. end_from ps (k + 1) (end_at l)

abbrev pub end_of : List PathStep → Tree → Result Tree Refusal
end_of path t = end_from path 0 t

-- the path ends at a layout that is no value
pub record EndsElsewhere (path : List PathStep) (t : Tree) : Type 0 where
  pub last : Tree
  pub ends : end_of path t ≡ Ok last
  pub no_value : IsValue last → ⊥

-- why a path is refused, whatever the indices
abbrev pub IsRefused : List PathStep → Tree → Refusal → Type 0
IsRefused path t e = (is : List ℕ) → follow path t is ≡ Err e

-- the first index that isn't below its bound, counted from k
abbrev pub IsFirstOut : ℕ → List Dim → List ℕ → Refusal → Type 0
IsFirstOut k [] is e = ⊥
IsFirstOut k (d ∷ ds) [] e = ⊥
IsFirstOut k (d ∷ ds) (i ∷ is) e = ((d.bound ≤ i) × (e ≡ IndexOut k)) ⊎ ((i < d.bound) × IsFirstOut (k + 1) ds is e)
