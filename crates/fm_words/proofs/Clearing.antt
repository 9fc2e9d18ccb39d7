-- A bit that is made 0, and the lowest that is 1.
use Rattle.std.{proofs.Common.{◌≡◌, ◌≢◌, ℕ, ◌*◌, ◌%◌, ◌^◌, ◌<◌, inl, inr, sym, ap, ◌∙◌}, specs.Int.{bit_at, bit_not, w64}}
use Rattle.std.proofs.lemmas.{Nat.Bits.{bit_at_clear_same, bit_at_clear_other, bit_at_above, same_from_bits_below}, Bool.{cases_lt}}
use mathlib.Core.Logic.{dite}
use native.Mathlib.Decide.{ℕ_discrete}
use lib.Bits.{bit_and}
use Rattle.fm_words.specs.Bits.{IsWithout}

pub is_without : (w b x : ℕ) → w < 2 ^ 64 → x < 2 ^ 64 → b < 64 → x ≡ bit_and w (bit_not w64 (1 * 2 ^ b % 2 ^ 64)) → IsWithout w b x
is_without w b x low fits h e =
    let zero : bit_at x b ≡ 0 = ap (λ (n : ℕ). bit_at n b) e ∙ bit_at_clear_same w64 w b h in
    let others : (k : ℕ) → k ≢ b → bit_at x k ≡ bit_at w k = (λ k n. elim (cases_lt k 64) [
      | inl l ↦ ap (λ (y : ℕ). bit_at y k) e ∙ bit_at_clear_other w64 w b h k l n
      | inr l ↦ bit_at_above x 64 k fits l ∙ sym (bit_at_above w 64 k low l)
    ]) in
    record {
      zero = zero;
      others = others;
      same = λ none. same_from_bits_below 64 x w fits low (λ k l. dite (ℕ_discrete k b)
          (λ q. ap (bit_at x) q ∙ (zero ∙ (sym none ∙ ap (bit_at w) (sym q))))
          (λ n. others k n));
    }
