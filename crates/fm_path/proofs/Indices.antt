-- What the pass over indices keeps: each is checked, and then summed.
use Rattle.std.proofs.Common.{◌≡◌, ℕ, ℤ, pos, negsuc, zero, suc, ◌+◌, ◌-◌, ◌*◌, ◌%◌, ◌^◌, ◌<◌, ◌≤◌, List, drop, sym, ap, subst, ◌∙◌, arith}
use Rattle.std.{specs.Int.{w64, cast_unsigned}, proofs.Math.Nat.{add-mod-mod, add-mul-mod_self_left, add-mul}}
use Rattle.fm_base.specs.declared.refusal.Refusal.{Refusal}
use Rattle.fm_path_meaning.specs.{declared.dim.Dim.{Dim}, Found.{IsFirstOut}, Steady.{IsInside, IsSteady}, Walk.{offset_at, reach, AreAdmitted}}

-- the indices before k are admitted
pub record IsChecked (k : ℕ) (ds : List Dim) (is : List ℕ) : Type 0 where
  pub admitted : AreAdmitted (drop k ds) (drop k is) → AreAdmitted ds is
  pub out : (e : Refusal) → IsFirstOut k (drop k ds) (drop k is) e → IsFirstOut 0 ds is e

-- the offset so far, and then the indices from k on, come to the whole, where that stays inside
pub record IsSummed (k at offset : ℕ) (ds : List Dim) (is : List ℕ) : Type 0 where
  pub rest : IsSteady offset ds is → IsSteady at (drop k ds) (drop k is) × (offset_at at (drop k ds) (drop k is) ≡ offset_at offset ds is)

-- both, in one pass
pub record IsPassed (k at offset : ℕ) (ds : List Dim) (is : List ℕ) : Type 0 where
  pub checked : IsChecked k ds is
  pub summed : IsSummed k at offset ds is

-- a stride back, as its two's complement, times an index: back so far, and a multiple of 2 ^ 64 on
goes_back : (at n i : ℕ) → n ≤ 2 ^ 64 → n * i ≤ at → at < 2 ^ 64 → (at + (2 ^ 64 - n) * i % 2 ^ 64) % 2 ^ 64 ≡ at - n * i
goes_back at n i small le fits =
    let d : (2 ^ 64 - n) + n ≡ 2 ^ 64 = omega arith in
    let p : (2 ^ 64 - n) * i + n * i ≡ 2 ^ 64 * i = sym (add-mul (2 ^ 64 - n) n i) ∙ ap (λ (x : ℕ). x * i) d in
    let e : at + (2 ^ 64 - n) * i ≡ (at - n * i) + 2 ^ 64 * i = omega (arith, p) in
    add-mod-mod at ((2 ^ 64 - n) * i) (2 ^ 64) ∙ ap (λ (x : ℕ). x % 2 ^ 64) e ∙ add-mul-mod_self_left (at - n * i) (2 ^ 64) i ∙ omega arith

-- the wrapped sum is the true one, where the index stays inside
pub moves : (at : ℕ) (s : ℤ) (i c : ℕ) → at < 2 ^ 64 → c ≡ cast_unsigned w64 s → IsInside at s i → (at + c * i % 2 ^ 64) % 2 ^ 64 ≡ reach at s i
moves at (pos s) i c fits e h =
    let on : at + s * i < 2 ^ 64 = h.on in
    subst (λ (x : ℕ). (at + x * i % 2 ^ 64) % 2 ^ 64 ≡ at + s * i) (sym e) (omega (arith, on))
moves at (negsuc s) zero c fits e h = omega arith
moves at (negsuc s) (suc i) c fits e h =
    let back : suc s * suc i ≤ at = h.back in
    let small : suc s ≤ 2 ^ 64 = grind (arith, back, fits) in
    subst (λ (x : ℕ). (at + x * suc i % 2 ^ 64) % 2 ^ 64 ≡ at - suc s * suc i) (sym e) (goes_back at (suc s) (suc i) small back fits)
