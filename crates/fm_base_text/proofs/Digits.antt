-- The digits of bytes that are spelled a piece at a time.
use Rattle.std.proofs.Common.{◌≡◌, refl, sym, ap, ◌∙◌, ℕ, List, [], ◌∷◌, ◌++◌, length, take, drop, codes, true, nat_lt, arith}
use Rattle.std.{specs.{List.{list_all}, Str.{IsAscii, IsUtf8}}, proofs.lemmas.Bool.{and_parts, ltb-true}}
use Rattle.std.proofs.lemmas.{List.{append-nil, append_assoc, take-append-drop}, Str.{IsUtf8-from_ascii}}
use Rattle.std.proofs.lemmas.Str.Ascii.{IsAscii-nil, IsAscii-cons}
use Rattle.fm_base_text.specs.Hex.{hex_text}
use Rattle.hex.{specs.Hex.{encode_lower, encode_with, lower_digits}, proofs.HexLemmas.{IsAscii-encode_with}}

-- bytes that were tested are ASCII
pub ascii_tested : (bs : List ℕ) → list_all (λ b. nat_lt b 128) bs ≡ true → IsAscii bs
ascii_tested [] t = IsAscii-nil
ascii_tested (b ∷ bs) t = let p = and_parts _ _ t in IsAscii-cons b bs (ltb-true b 128 p.0) (ascii_tested bs p.1)

-- digits are text
pub utf8_digits : (bytes : List ℕ) → IsUtf8 (encode_lower bytes)
utf8_digits bytes = IsUtf8-from_ascii (encode_lower bytes) (IsAscii-encode_with lower_digits bytes (ascii_tested lower_digits refl))

-- the digits of two pieces
split : (t xs ys : List ℕ) → encode_with t (xs ++ ys) ≡ encode_with t xs ++ encode_with t ys
unfolding encode_with
split t [] ys = refl
split t (b ∷ xs) ys = rw (split t xs ys) refl

-- what is spelled and what is left stay the same together
pub one_piece : (text next rest piece more : List ℕ) (n : ℕ) → next ≡ text ++ encode_lower piece → piece ≡ take n rest → more ≡ drop n rest
    → next ++ encode_lower more ≡ text ++ encode_lower rest
one_piece text next rest piece more n added front back =
    rw (added, front, back)
    (append_assoc text (encode_lower (take n rest)) (encode_lower (drop n rest))
    ∙ ap (λ ds. text ++ ds) (sym (split lower_digits (take n rest) (drop n rest)) ∙ ap encode_lower (take-append-drop n rest)))

-- nothing is left
pub spelled : (old start text rest bytes : List ℕ) → start ≡ old ++ codes " " → length rest ≡ 0 → (length bytes ≡ 0 → ⊥)
    → text ++ encode_lower rest ≡ start ++ encode_lower bytes → text ≡ old ++ hex_text bytes
unfolding encode_with
spelled old start text [] [] space none some all = absurd (some refl)
spelled old start text [] (b ∷ bytes) space none some all =
    sym (append-nil text) ∙ all ∙ ap (λ s. s ++ encode_lower (b ∷ bytes)) space ∙ append_assoc old (codes " ") (encode_lower (b ∷ bytes))
spelled old start text (b ∷ rest) bytes space none some all = absurd (omega arith)
