-- The text that bytes have, as it was read.
use Rattle.std.proofs.Common.{◌≡◌, ℕ, List, take, Some, None, Ok, Err, sym}
use Rattle.std.specs.Str.{IsUtf8}
use Rattle.fm_base.specs.declared.refusal.Refusal.{Refusal, TheVariants.{NotText, NoZero}}
use Rattle.fm_text.specs.Texts.{zero_at}
use Rattle.fm_top_texts.specs.{Laws.{BytesHaveOneText}, Lines.{text_of}}
use Rattle.fm_c_calls.specs.Reading.{IsNoText}

pub told_text : BytesHaveOneText → (bytes text : List ℕ) (n : ℕ) → zero_at bytes ≡ Some n → text ≡ take n bytes → IsUtf8 text → text_of bytes ≡ Ok text
told_text text_is bytes text n zero same utf8 = sym (text_is bytes (Ok text) (n, zero, (same, utf8)))

pub told_none : BytesHaveOneText → (bytes : List ℕ) (n : ℕ) (e : Refusal) → zero_at bytes ≡ Some n → IsNoText (take n bytes) e → text_of bytes ≡ Err e
told_none text_is bytes n (NotText at) zero none = sym (text_is bytes (Err (NotText at)) (n, zero, none.1))
told_none text_is bytes n e zero none = absurd none

pub told_endless : BytesHaveOneText → (bytes : List ℕ) → zero_at bytes ≡ None → text_of bytes ≡ Err NoZero
told_endless text_is bytes none = sym (text_is bytes (Err NoZero) none)
