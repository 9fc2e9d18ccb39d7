-- Words that spell numbers.
use Rattle.std.proofs.Common.{◌≡◌, refl, sym, ap, subst, ◌∙◌, ℕ, ◌<◌, ◌≤◌, ◌^◌, suc, true, false, if◌then◌else◌, nat_le, eqb, Option, Some, None, List, [], ◌∷◌, arith, w64}
use Rattle.std.specs.{Prelude.{ℤ, pos, negsuc, neg_ℤ}, Fmt.{decimal, signed_decimal}, Int.Signed.{mag}, Char.{digit_value}, Str.{bytes_eq}}
use Rattle.std.{specs.Str.Parse.{IsNumeral, digits_value}, proofs.lemmas.{Bool.{cond_both, eqb-true, ltb-true}, Fmt.{decimal_is_IsNumeral}}}
use Rattle.std.proofs.lemmas.{Int.{ints, to_z-of_z}, Slice.Eq.{bytes_eq-Decides}}
use mir.Val.{to_z, of_z}
use Rattle.fm_lanes.specs.declared.value_kind.ValueKind.{ValueKind, TheVariants.{Byte, Boolean, Char, Short, Int, Long}}
use Rattle.fm_script_text.specs.{Syntax.{above, below}, Reader.{number_named, literal_named, number_value, is_of_kind}}

-- ---- without a sign

-- a word is read as the number that it spells
pub named_number : (most n : ℕ) (word : List ℕ) → n < 2 ^ 64 → word ≡ decimal n → number_named most word ≡ (if nat_le n most then Some n else None)
named_number most n word small spelled =
    let value : digits_value 10 word ≡ n = ap (digits_value 10) spelled ∙ (decimal_is_IsNumeral n small).1 in
    let same : bytes_eq word (decimal n) ≡ true = (bytes_eq-Decides word (decimal n)).1 spelled in
    rw (value, same) refl

-- ---- with a sign

-- what digits write has no sign
value_of_digits : (ds : List ℕ) → IsNumeral 10 ds → number_value ds ≡ pos (digits_value 10 ds)
value_of_digits [] h = absurd (omega (arith, h.0))
value_of_digits (c ∷ cs) h = cond_both (eqb c 45) (neg_ℤ (pos (digits_value 10 cs))) (pos (digits_value 10 (c ∷ cs))) (λ z.
    z ≡ pos (digits_value 10 (c ∷ cs))) (λ t. absurd (no_minus c (eqb_is c 45 t) h.1.0)) (λ f. refl)
  where
    eqb_is : (a b : ℕ) → eqb a b ≡ true → a ≡ b
    eqb_is a b t = eqb-true a b t

    no_minus : (c : ℕ) → c ≡ 45 → digit_value c < 10 → ⊥
    no_minus c e h = let k : digit_value 45 < 10 = subst (λ x. digit_value x < 10) e h in omega arith

-- the value of a number's text is the number
pub value_spelled : (z : ℤ) → mag z < 2 ^ 63 → number_value (signed_decimal z) ≡ z
value_spelled (pos n) small =
    let numeral = decimal_is_IsNumeral n (omega arith) in
    value_of_digits (decimal n) numeral.0 ∙ ap pos numeral.1
value_spelled (negsuc n) small = ap (λ m. neg_ℤ (pos m)) (decimal_is_IsNumeral (suc n) (omega arith)).1

-- a word is read as the number that it spells, if it is of the kind
pub named_literal : (kind : ValueKind) (z : ℤ) (word : List ℕ) → mag z < 2 ^ 63 → word ≡ signed_decimal z
    → literal_named kind word ≡ (if is_of_kind kind z then Some z else None)
named_literal kind z word small spelled =
    let value : number_value word ≡ z = ap number_value spelled ∙ value_spelled z small in
    let same : bytes_eq word (signed_decimal z) ≡ true = (bytes_eq-Decides word (signed_decimal z)).1 spelled in
    rw (value, same) refl

-- the numbers of a kind have 64 bits
record Fits (kind : ValueKind) : Type 0 where
  upwards : above kind ≤ 2 ^ 63
  downwards : below kind ≤ 2 ^ 63

fits : (kind : ValueKind) → Fits kind
fits Byte = record { upwards = omega arith; downwards = omega arith }
fits Boolean = record { upwards = omega arith; downwards = omega arith }
fits Char = record { upwards = omega arith; downwards = omega arith }
fits Short = record { upwards = omega arith; downwards = omega arith }
fits Int = record { upwards = omega arith; downwards = omega arith }
fits Long = record { upwards = omega arith; downwards = omega arith }

-- so has each of them
pub kind_is_small : (kind : ValueKind) (z : ℤ) → is_of_kind kind z ≡ true → mag z < 2 ^ 63
kind_is_small kind (pos n) t = let h = ltb-true _ _ t in let f = (fits kind).upwards in omega (arith, h, f)
kind_is_small kind (negsuc n) t = let h = ltb-true _ _ t in let f = (fits kind).downwards in omega (arith, h, f)

-- ---- as the machine holds them

-- the machine holds a number of 64 bits as it is
pub held : (z : ℤ) → mag z < 2 ^ 63 → to_z w64 (of_z w64 z) ≡ z
held z small = to_z-of_z w64 z (omega (arith, ints))

-- a number that a word spells is what the word is read as, where it is of the kind
pub literal_found : (kind : ValueKind) (z : ℤ) (word : List ℕ) → mag z < 2 ^ 63 → word ≡ signed_decimal z → is_of_kind kind z ≡ true
    → Some (to_z w64 (of_z w64 z)) ≡ literal_named kind word
literal_found kind z word small spelled is = ap Some (held z small) ∙ sym (named_literal kind z word small spelled ∙ rw is refl)

-- and as none where it isn't
pub literal_missed : (kind : ValueKind) (z : ℤ) (word : List ℕ) → mag z < 2 ^ 63 → word ≡ signed_decimal z → is_of_kind kind z ≡ false
    → ◌≡◌ {A = Option ℤ} None (literal_named kind word)
literal_missed kind z word small spelled is = sym (named_literal kind z word small spelled ∙ rw is refl)
