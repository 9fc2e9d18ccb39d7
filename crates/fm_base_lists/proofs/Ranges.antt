-- Runs of numbers.
use Rattle.std.proofs.Common.{◌≡◌, ℕ, zero, suc, ◌+◌, ◌∷◌, ◌++◌, List, sym, ap, ◌∙◌, arith}
use Rattle.std.specs.List.{range_with_len}

-- The numbers of a range, in two parts.
pub range_append : (a m n : ℕ) → range_with_len a (m + n) ≡ range_with_len a m ++ range_with_len (a + m) n
range_append a zero n =
    let at : a + 0 ≡ a = omega arith in
    let all : 0 + n ≡ n = omega arith in
    ap (λ k. range_with_len a k) all ∙ ap (λ k. range_with_len k n) (sym at)
range_append a (suc m) n =
    let count : suc m + n ≡ suc (m + n) = omega arith in
    let there : a + 1 + m ≡ a + suc m = omega arith in
    ap (λ k. range_with_len a k) count ∙ ap (λ (ks : List ℕ). a ∷ ks) (range_append (a + 1) m n)
    ∙ ap (λ k. a ∷ range_with_len (a + 1) m ++ range_with_len k n) there
