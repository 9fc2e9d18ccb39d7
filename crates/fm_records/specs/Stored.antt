-- The numbers that stand in a width.
use Rattle.std.specs.Prelude.{◌≡◌, ◌≢◌, ℕ, ◌-◌, ◌*◌, ◌^◌, nat_lt, Bool, List, [], ◌∷◌, ◌++◌, ℤ, pos, negsuc, Result, Ok, true, false, ◌↔◌, fold, if◌then◌else◌, IfOk, OnErr}
use Rattle.fm_base_bytes.specs.Signed.{FitsBytes}
use Rattle.fm_lanes.specs.{declared.value_kind.ValueKind.{ValueKind, TheVariants.{Char}}, Kind.{width_of}}
use Rattle.fm_records.specs.declared.stored.Stored.{Stored, TheVariants.{Bytes, Shorts, Ints, Longs}}

abbrev pub numbers_of : Stored → List ℤ
numbers_of (Bytes v) = v.items
numbers_of (Shorts v) = v.items
numbers_of (Ints v) = v.items
numbers_of (Longs v) = v.items

-- how many bytes each number takes
abbrev pub width_in : Stored → ℕ
width_in (Bytes v) = 1
width_in (Shorts v) = 2
width_in (Ints v) = 4
width_in (Longs v) = 8

-- how many each number of a kind takes: a character's is one that no short holds
abbrev pub number_width : ValueKind → ℕ
number_width Char = 4
number_width kind = width_of kind

-- whether a width holds the number, as a test: `FitsBytes` says the same
abbrev pub holds : ℕ → ℤ → Bool
holds width (pos n) = nat_lt n (2 ^ (8 * width - 1))
holds width (negsuc n) = nat_lt n (2 ^ (8 * width - 1))

-- the width in which the numbers stand behind one more: the same where it holds that one, and else that of longs
abbrev pub width_with : ℕ → ℤ → ℕ
width_with width number = if holds width number then width else 8

-- The width once more numbers stand behind: the same where these stood in it too, and else what it comes to with each of them in turn.
pub record StandsBehind (old new more : Stored) : Type 0 where
  pub alike : width_in old ≡ width_in more → width_in new ≡ width_in old
  pub other : width_in old ≢ width_in more → width_in new ≡ fold width_with (width_in old) (numbers_of more)

-- a number stands behind those before where the width holds it, and if there was memory
pub record IsPut {E : Type 0} (width : ℕ) (old new : List ℤ) (number : ℤ) (result : Result Bool E) : Type 0 where
  pub put : result ≡ Ok true → new ≡ old ++ number ∷ []
  pub wide : result ≡ Ok false → new ≡ old
  pub fits : IfOk result (λ did. did ≡ true ↔ FitsBytes width number)
  pub same : OnErr result (new ≡ old)
