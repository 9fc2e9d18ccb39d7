-- What the text of bytes is.
use Rattle.std.proofs.Common.{◌≡◌, ℕ, Bool, true, false, List, length, take, Some, Result, Ok, Err, refl, ap, sym, subst, ◌∙◌, arith}
use Rattle.std.{specs.{Str.{IsUtf8, IsValidUpTo, is_utf8}}, proofs.lemmas.{List.{take_all}, Str.{IsUtf8-from_is_utf8, is_utf8-from_IsUtf8, utf8_valid_len-IsValidUpTo}}}
use Rattle.fm_base.specs.declared.refusal.Refusal.{Refusal, TheVariants.{NotText, NoZero}}
use Rattle.fm_text.specs.Texts.{zero_at, IsText}
use Rattle.fm_top_texts.specs.{Laws.{BytesHaveOneText}, Lines.{front_text, text_of, whole_text}}

-- bytes that are no text are it up to there
no_text : (bytes : List ℕ) (at : ℕ) → IsValidUpTo bytes at → is_utf8 bytes ≡ false
no_text bytes at v = by (is_utf8 bytes) refl
  where
    by : (b : Bool) → is_utf8 bytes ≡ b → b ≡ false
    by false e = refl
    by true e =
        let short = v.short in
        let all : take (length bytes) bytes ≡ bytes = take_all (length bytes) bytes (omega arith) in
        absurd (v.longest (length bytes) short (subst IsUtf8 (sym all) (IsUtf8-from_is_utf8 bytes e)))

whole_is : (bytes : List ℕ) (result : Result (List ℕ) Refusal) → IsText bytes result → result ≡ whole_text bytes
whole_is bytes (Ok text) (same, is) = rw (is_utf8-from_IsUtf8 bytes (subst IsUtf8 same is)) (ap Ok same)
whole_is bytes (Err (NotText at)) v = rw (no_text bytes at v) (ap (λ n. Err (NotText n)) (sym (utf8_valid_len-IsValidUpTo bytes at v)))
whole_is bytes (Err e) none = absurd none

front_is : (bytes : List ℕ) (result : Result (List ℕ) Refusal) (n : ℕ) → zero_at bytes ≡ Some n → IsText (take n bytes) result → result ≡ text_of bytes
front_is bytes result n zero is = whole_is (take n bytes) result is ∙ sym (ap (front_text bytes) zero)

-- bytes have no other text
pub text_is : BytesHaveOneText
text_is bytes (Ok text) (n, zero, is) = front_is bytes (Ok text) n zero is
text_is bytes (Err NoZero) none = sym (ap (front_text bytes) none)
text_is bytes (Err (NotText at)) (n, zero, is) = front_is bytes (Err (NotText at)) n zero is
text_is bytes (Err e) (n, zero, is) = absurd is
