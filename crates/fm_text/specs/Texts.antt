-- Texts that end with a byte 0.
use Rattle.std.specs.{Prelude.{◌≡◌, ℕ, ◌==◌, position, take, List, [], ◌∷◌, ◌++◌, Option, Some, None, Result, Ok, Err}, Str.{IsUtf8, IsValidUpTo}, String.{string_bytes}}
use Rattle.std.specs.declared.{string.String.{String}, alloc.Global.{Global}}
use Rattle.fm_base.specs.declared.refusal.Refusal.{Refusal, TheVariants.{NotText, NoZero}}

-- these bytes, and a 0 behind them
abbrev pub zero_ended : List ℕ → List ℕ
zero_ended bytes = bytes ++ 0 ∷ []

-- the index of the first byte that is 0
abbrev pub zero_at : List ℕ → Option ℕ
zero_at bytes = position (λ b. b == 0) bytes

-- all these bytes as a text; where they aren't UTF-8, `at` of the refusal is the length of their longest front that is
abbrev pub IsText : List ℕ → Result (List ℕ) Refusal → Type 0
IsText bytes (Ok text) = (text ≡ bytes) × IsUtf8 text
IsText bytes (Err (NotText at)) = IsValidUpTo bytes at
IsText bytes (Err r) = ⊥

-- the bytes before the first 0 as a text; refused where no byte is 0
abbrev pub IsTextOf : List ℕ → Result (List ℕ) Refusal → Type 0
IsTextOf bytes (Err NoZero) = zero_at bytes ≡ None
IsTextOf bytes result = (n : ℕ) × (zero_at bytes ≡ Some n) × IsText (take n bytes) result

-- an answer, its text as bytes
abbrev pub text_bytes : Result (String Global) Refusal → Result (List ℕ) Refusal
text_bytes (Ok text) = Ok (string_bytes text)
text_bytes (Err e) = Err e
