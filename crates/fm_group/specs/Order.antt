-- The order in which a table's places are tried for a number: upwards from a first one, and behind the last the place 0.
use Rattle.std.specs.{Prelude.{◌≡◌, ℕ, ◌+◌, ◌*◌, ◌/◌, ◌%◌, ◌^◌, ◌<◌, ℤ}, Int.Bits.{bit_xor}}
use Rattle.fm_base_bytes.specs.Signed.{unsigned_of}
use Rattle.fm_group.specs.declared.order.PlaceOrder.{PlaceOrder, TheVariants.{ByRemainder, Mixed}}

-- the high bits of a number below 2^64, folded over its low ones
abbrev pub folded : ℕ → ℕ
folded u = bit_xor u (u / 2 ^ 33)

-- all bits of it, mixed: numbers that lie near each other, or one as far from the next as the next from the third, go far apart
abbrev pub mixed : ℕ → ℕ
mixed u = folded (folded u * 18397679294719823053 % 2 ^ 64) * 14181476777654086739 % 2 ^ 64

-- numbers below 2^64 are dealt evenly to so many places, by their high bits
abbrev pub dealt : ℕ → ℕ → ℕ
dealt places u = u * places / 2 ^ 64

-- the first place for a number
abbrev pub first_of : PlaceOrder → ℕ → ℤ → ℕ
first_of ByRemainder places x = unsigned_of 8 x % places
first_of Mixed places x = dealt places (mixed (unsigned_of 8 x))

-- the place that is tried after k others
abbrev pub in_order : PlaceOrder → ℕ → ℤ → ℕ → ℕ
in_order order places x k = (first_of order places x + k) % places

-- ---- laws

-- each place of a table is tried, in either order
abbrev pub TriesEachPlace : Type 0
TriesEachPlace =
    (order : PlaceOrder) (places : ℕ) (x : ℤ) (p : ℕ) → p < places → (k : ℕ) × (k < places) × (in_order order places x k ≡ p)
