-- The first place of a number, and that each place is tried.
use Rattle.std.proofs.Common.{◌≡◌, ℕ, ◌+◌, ◌-◌, ◌*◌, ◌%◌, ◌^◌, ◌<◌, ap, ◌∙◌, inl, inr, arith}
use Rattle.std.{specs.{Prelude.{ℤ}}, proofs.{Math.Nat.{add-mod_left, div-lt_iff_lt-mul, mod-eq_of_lt, mod-lt, mul-lt-mul_of_pos_right}, lemmas.Bool.{cases_lt}}}
use Rattle.fm_base_bytes.specs.Signed.{unsigned_of}
use Rattle.fm_group.specs.{Order.{TriesEachPlace, dealt, first_of, folded, mixed}, declared.order.PlaceOrder.{PlaceOrder, TheVariants.{ByRemainder, Mixed}}}

pub dealt_below : (places u : ℕ) → u < 2 ^ 64 → 0 < places → dealt places u < places
dealt_below places u small some =
    let more : u * places < 2 ^ 64 * places = mul-lt-mul_of_pos_right small some in
    (div-lt_iff_lt-mul (omega arith)).1 (let turned : 2 ^ 64 * places ≡ places * 2 ^ 64 = omega arith in omega (arith, more, turned))

pub first_below : (order : PlaceOrder) (places : ℕ) (x : ℤ) → 0 < places → first_of order places x < places
first_below ByRemainder places x some = mod-lt (unsigned_of 8 x) some
first_below Mixed places x some =
    let u = unsigned_of 8 x in
    dealt_below places (mixed u) (mod-lt (folded (folded u * 18397679294719823053 % 2 ^ 64) * 14181476777654086739) (omega arith)) some

each_reached : (most start p : ℕ) → start < most → p < most → (k : ℕ) × (k < most) × ((start + k) % most ≡ p)
each_reached most start p high below = elim (cases_lt p start) [
  | inl before ↦ (
      let sum : start + (p + (most - start)) ≡ most + p = omega (arith, high) in
      (p + (most - start), omega (arith, before, high), ap (λ m. m % most) sum ∙ add-mod_left most p ∙ mod-eq_of_lt below))
  | inr behind ↦ (
      let sum : start + (p - start) ≡ p = omega (arith, behind) in
      (p - start, omega (arith, below), ap (λ m. m % most) sum ∙ mod-eq_of_lt below))
]

pub each_tried : TriesEachPlace
each_tried order places x p below = each_reached places (first_of order places x) p (first_below order places x (omega (arith, below))) below
