-- Bytes as they are printed.
use Rattle.std.specs.Prelude.{ℕ, List, [], ◌∷◌, ◌++◌, codes}
use Rattle.hex.specs.Hex.{encode_lower}

-- a space and the bytes, in lower case; nothing where there are none
abbrev pub hex_text : List ℕ → List ℕ
hex_text [] = []
hex_text (b ∷ bytes) = codes " " ++ encode_lower (b ∷ bytes)
