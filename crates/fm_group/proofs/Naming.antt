-- Which value a claim names.
use Rattle.std.proofs.Common.{◌≡◌, ℕ, zero, suc, ◌<◌, Bool, true, false, if◌then◌else◌, refl, arith, Some, None}
use Rattle.std.{specs.{Prelude.{nat_lt}}, proofs.lemmas.Bool.Decides.{nat_tests}}
use Rattle.fm_group.specs.{Table.{named_by}, Values.{Valued, count_of}}

-- A value that is named is one.
pub named_one : (v : Valued) (claim m : ℕ) → named_by v claim ≡ Some m → m < count_of v
named_one v zero m e = absurd (cc)
named_one v (suc n) m e = go (nat_lt n (count_of v)) refl e
  where
    go : (b : Bool) → nat_lt n (count_of v) ≡ b → (if b then Some n else None) ≡ Some m → m < count_of v
    go true t is = let same : n ≡ m = cc in let low : n < count_of v = grind (arith, nat_tests) in omega (arith, same, low)
    go false t is = absurd (cc)
