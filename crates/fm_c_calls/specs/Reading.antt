-- What bytes of a caller's are read as, and why they aren't.
use Rattle.std.specs.{Prelude.{◌≡◌, ◌⊎◌, ℕ, List, Result, Ok, Err}, Str.{IsUtf8, IsValidUpTo}}
use Rattle.fm_base.specs.declared.refusal.Refusal.{Refusal, TheVariants.{Memory, NotText}}
use Rattle.fm_layout.specs.{Tree.{Tree, alignment_of}, Size.{size_of}}
use Rattle.fm_ljson.specs.{Answer.{layout_of_json}, Causes.{IsCause}}
use Rattle.fm_path.specs.Listing.{list_text}
use Rattle.fm_c_calls.specs.{declared.extent.Extent.{Extent}, Output.{Fills}}

-- the bytes are the JSON of this layout
abbrev pub IsLayoutOf : List ℕ → Tree → Type 0
IsLayoutOf json t = layout_of_json json ≡ Ok t

-- they are that of none, and the refusal has its cause; or memory was wanting
pub record IsNoLayout (json : List ℕ) (e : Refusal) : Type 0 where
  pub cause : IsCause json e
  pub answer : (e ≡ Memory) ⊎ (layout_of_json json ≡ Err e)

-- the bytes are no UTF-8, and their longest front that is has so many
abbrev pub IsNoText : List ℕ → Refusal → Type 0
IsNoText bytes (NotText at) = (IsUtf8 bytes → ⊥) × IsValidUpTo bytes at
IsNoText bytes e = ⊥

-- ---- a layout measured

abbrev pub extent_of : Tree → Extent
extent_of t = record { size = size_of t; alignment = alignment_of t }

pub record IsMeasured (json : List ℕ) (new : Extent) (n : ℕ) : Type 0 where
  pub layout : Tree
  pub read : IsLayoutOf json layout
  pub extent : new ≡ extent_of layout
  pub bare : n ≡ 0

-- its size and alignment were put, or it was refused and nothing was
abbrev pub Measures : List ℕ → Extent → Extent → Result ℕ Refusal → Type 0
Measures json old new (Ok n) = IsMeasured json new n
Measures json old new (Err e) = (new ≡ old) × IsNoLayout json e

-- ---- its places listed

pub record IsListed (json old new : List ℕ) (n : ℕ) : Type 0 where
  pub layout : Tree
  pub read : IsLayoutOf json layout
  pub fills : Fills old new (list_text layout) n

-- the text that lists its places was put, as far as there was room; or it was refused and nothing was
abbrev pub Lists : List ℕ → List ℕ → List ℕ → Result ℕ Refusal → Type 0
Lists json old new (Ok n) = IsListed json old new n
Lists json old new (Err e) = (new ≡ old) × IsNoLayout json e
