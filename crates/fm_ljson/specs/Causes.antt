-- Why reading a layout from JSON is refused.
use Rattle.std.specs.Prelude.{◌≡◌, ℕ, Some, None, Err, List, IsUtf8}
use Rattle.serde_json.specs.{Data.{Data}, Read.{read}}
use Rattle.fm_base.specs.declared.refusal.Refusal.{Refusal}
use Rattle.fm_base.specs.declared.refusal.Refusal.TheVariants.{BadJson, BadShape, BadAlignment, Overflow, MemberMisaligned, ElementRagged, BadPadding, AlignmentBelow, Memory}
use Rattle.fm_ljson.specs.{Answer.{fault_in, made_of}, Documents.{text_of}}

-- the bytes are the JSON text of this value
pub record IsJsonOf (bytes : List ℕ) (d : Data) : Type 0 where
  pub utf8 : IsUtf8 bytes
  pub reading : read bytes ≡ Some d

-- the bytes are JSON whose node n is the first that breaks a rule, or else the root of the first layout that is too large
pub record IsBadAt (bytes : List ℕ) (n : ℕ) : Type 0 where
  pub value : Data
  pub json : IsJsonOf bytes value
  pub broken : fault_in (text_of value) ≡ Some n

-- the bytes are JSON whose nodes break no rule, and the first refusal of a layout that is built is this one
pub record IsRefusedAs (bytes : List ℕ) (r : Refusal) : Type 0 where
  pub value : Data
  pub json : IsJsonOf bytes value
  pub shaped : fault_in (text_of value) ≡ None
  pub refused : made_of (text_of value) ≡ Err r

-- why these bytes are refused so; want of memory is free, and no other refusal comes
abbrev pub IsCause : List ℕ → Refusal → Type 0
IsCause bytes BadJson = (d : Data) → ¬ (IsJsonOf bytes d)
IsCause bytes (BadShape n) = IsBadAt bytes n
IsCause bytes BadAlignment = IsRefusedAs bytes BadAlignment
IsCause bytes Overflow = IsRefusedAs bytes Overflow
IsCause bytes (MemberMisaligned i at) = IsRefusedAs bytes (MemberMisaligned i at)
IsCause bytes ElementRagged = IsRefusedAs bytes ElementRagged
IsCause bytes BadPadding = IsRefusedAs bytes BadPadding
IsCause bytes (AlignmentBelow n) = IsRefusedAs bytes (AlignmentBelow n)
IsCause bytes Memory = Unit {0}
IsCause bytes _ = ⊥
