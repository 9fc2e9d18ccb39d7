-- Words that spell numbers.
use Rattle.std.{proofs.Common.{◌≡◌, sym, ap, subst, ◌∙◌, ◌<◌, ◌^◌, Bool, false, Result, Ok, Err, List, ℕ, arith, w64}, specs.Prelude.{ℤ}}
use Rattle.std.specs.{Fmt.{decimal, signed_decimal}, Int.{RustNames.{FitsSigned}, Signed.{mag}}, Str.{bytes_eq, Parse.{ParsesSigned, ParsesUnsigned}}}
use Rattle.std.proofs.lemmas.{Bool.Decides.{not_from_Decides}, Fmt.{parse-decimal, parse-signed_decimal}, Int.{ints, to_z-of_z}, Slice.Eq.{bytes_eq-Decides}}
use mir.Val.{to_z, of_z}

-- What spells a number is read as that number.
pub reads : {E : Type 0} (word : List ℕ) (r : Result ℕ E) → ParsesUnsigned 64 10 word r → (n : ℕ) → n < 2 ^ 64 → word ≡ decimal n → r ≡ Ok n
reads word r parsed n small spelled = parse-decimal 64 n word r small small spelled parsed

-- So is what spells one with a sign.
pub reads_signed : {E : Type 0} (word : List ℕ) (r : Result ℤ E) → ParsesSigned w64 10 word r → (n : ℤ) → mag n < 2 ^ 63 → word ≡ signed_decimal n
    → r ≡ Ok n
reads_signed word r parsed n small spelled = parse-signed_decimal w64 n word r (omega (arith, ints)) small spelled parsed

-- A number that was read has 64 bits.
pub parsed_held : {E : Type 0} (word : List ℕ) (r : Result ℤ E) (z : ℤ) → ParsesSigned w64 10 word r → r ≡ Ok z → to_z w64 (of_z w64 z) ≡ z
parsed_held {E} word r z parsed read =
    let p : ParsesSigned {E = E} w64 10 word (Ok z) = subst (ParsesSigned w64 10 word) read parsed in
    to_z-of_z w64 z (subst (FitsSigned w64) (sym p.1) p.0.1)

-- A word was read, and what spells a number that is small enough is read as that number.
module _ {N E : Type 0} (spelling : N → List ℕ) (IsSmall : N → Type 0) (word : List ℕ) (r : Result N E)
    (reads : (n : N) → IsSmall n → word ≡ spelling n → r ≡ Ok n) where
  -- A word that isn't read as a number spells none.
  pub unread : (fault : E) → r ≡ Err fault → (n : N) → IsSmall n → word ≡ spelling n → ⊥
  unread fault failed n small spelled = let both : ◌≡◌ {A = Result N E} (Err fault) (Ok n) = sym failed ∙ reads n small spelled in cc

  -- Nor does one that isn't the spelling of the number that was read from it.
  pub misspelled : (text : List ℕ) (m : N) (same : Bool) → r ≡ Ok m → text ≡ spelling m → same ≡ bytes_eq text word → same ≡ false
      → (n : N) → IsSmall n → word ≡ spelling n → ⊥
  misspelled text m same read is tested other n small spelled =
      let both : ◌≡◌ {A = Result N E} (Ok m) (Ok n) = sym read ∙ reads n small spelled in
      let equal : m ≡ n = cc in
      not_from_Decides (bytes_eq text word) (bytes_eq-Decides text word) (sym tested ∙ other) (is ∙ ap spelling equal ∙ sym spelled)
