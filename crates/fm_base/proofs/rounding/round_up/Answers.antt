use Rattle.std.proofs.{Common.{◌≡◌, ℕ, ◌+◌, ◌-◌, ◌*◌, ◌/◌, ◌^◌, ◌<◌, ◌≤◌, refl, ap, sym, ◌∙◌, arith, bit_and, inl, inr}, Math.Pow.{pow-lt}}
use Rattle.std.proofs.lemmas.{Bool.{cases_lt}, Nat.{Bits.{and_high_mask}}}
use Rattle.fm_base_bytes.proofs.Powers.{IsPowerOfTwo-from_test}
use Rattle.fm_base.specs.Machine.{rounded_up}
use Rattle.fm_base.proofs.rounding.round_up.Goals as goal

-- A power of two of 64 bits has a small exponent.
small : (k : ℕ) → 2 ^ k < 2 ^ 64 → k ≤ 128
small k few = elim (cases_lt 128 k) [
  | inl more ↦ absurd (let far = pow-lt more in omega arith)
  | inr less ↦ omega arith
]

-- The mask clears what is below a multiple.
masked : (k n low align : ℕ) → align ≡ 2 ^ k → align < 2 ^ 64 → n < 2 ^ 64 → low ≡ align - 1 → 0 < align
    → bit_and (n + low) (340282366920938463463374607431768211455 - low) ≡ rounded_up n align
masked k n low align is few place below pos =
    let mask : 340282366920938463463374607431768211455 - low ≡ 2 ^ 128 - 2 ^ k = omega (arith, is) in
    let sum : n + low < 2 ^ 128 = omega arith in
    ap (λ m. bit_and (n + low) m) mask
    ∙ (and_high_mask 128 k (small k (omega (arith, is))) (n + low) sum ∙ (λ j. (n + below j) / sym is j * sym is j))

pub returns-then-is_power_of_two : goal.returns-then-is_power_of_two
returns-then-is_power_of_two c =
    let n = c.args.n in
    let align = c.args.align in
    let power = IsPowerOfTwo-from_test align (sym c.is_power_of_two.ensures ∙ c.if-is_power_of_two.true) in
    rw (c.from.ensures, c.from-below.ensures) (masked power.0 n (align - 1) align power.1 c.ranges.align.fits c.ranges.n.fits refl c.requires)
