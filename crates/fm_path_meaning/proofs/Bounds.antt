-- Strides of sequences that stay within the limit.
use Rattle.std.proofs.{Common.{◌≡◌, ℕ, ℤ, pos, negsuc, zero, suc, ◌-◌, ◌*◌, ◌/◌, ◌^◌, ◌<◌, ◌≤◌, ◌≢◌, refl, arith}, Math.Nat.{mul-le-mul_right}}
use Rattle.std.proofs.lemmas.Nat.{div-add-mod'}
use Rattle.fm_path_meaning.specs.{Steady.{IsShort}, Walk.{bound_of}}

-- a quotient above 0 has a divisor of at most the number
positive_quotient : (n m : ℕ) → 0 < n / m → m ≤ n
positive_quotient n m h = omega (arith, div-add-mod' n m, mul-le-mul_right {m = 1} {n = n / m} m h)

-- where there is a second index, a step stays in the sequence
pub is_short : (f : ℕ) (s : ℤ) (count bytes b : ℕ) → f < count → s ≢ pos 0 → b ≡ bound_of f s count → count * bytes ≤ 2 ^ 40 → IsShort s bytes b
is_short f (pos zero) count bytes b lt nz eb fits = absurd (nz refl)
is_short f (pos (suc s)) count bytes b lt nz eb fits = λ ne.
    let q : 0 < (count - f - 1) / suc s = grind (arith, eb, ne) in
    let le = positive_quotient (count - f - 1) (suc s) q in
    omega (arith, fits, mul-le-mul_right {m = suc s} {n = count} bytes (omega arith))
is_short f (negsuc s) count bytes b lt nz eb fits = λ ne.
    let q : 0 < f / suc s = grind (arith, eb, ne) in
    let le = positive_quotient f (suc s) q in
    omega (arith, fits, mul-le-mul_right {m = suc s} {n = count} bytes (omega arith))
