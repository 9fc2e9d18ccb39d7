-- What constructors make is well formed.
use Rattle.std.{proofs.{Common.{◌≡◌, refl, ℕ, ◌≤◌, max, arith, ◌∙◌, nat_cmp, inl, inr}, lemmas.Bool.{cases_lt}}, specs.{Int.{IsPowerOfTwo}, Ordering.{ord_max}}}
use Rattle.std.proofs.lemmas.{Bool.Decides.{nat_tests}, Nat.{pow_pos}}
use Rattle.fm_lanes.specs.{Kind.{width_of}, declared.{order.Order.TheVariants.{Little}, value_kind.ValueKind.{ValueKind}}}
use Rattle.fm_lanes.specs.declared.value_kind.ValueKind.TheVariants.{Byte, Boolean, Char, Short, Int, Long}
use Rattle.fm_layout.specs.{Tree.{Tree, Value, Padding, Sequence, Struct, Union, Label, alignment_of, relabelled}, Size.{least_of}}
use Rattle.fm_layout.specs.{WellFormed.{limit, IsFit, IsWellFormed}, Named.{IsNameIfAny}, Sound.{IsSound}, Parts.{IsPadding}, Made.{plain}}

-- ---- powers of two

-- A width is a power of two.
pub IsPowerOfTwo-width : (k : ValueKind) → IsPowerOfTwo (width_of k)
IsPowerOfTwo-width Byte = (0, refl)
IsPowerOfTwo-width Boolean = (0, refl)
IsPowerOfTwo-width Char = (1, refl)
IsPowerOfTwo-width Short = (1, refl)
IsPowerOfTwo-width Int = (2, refl)
IsPowerOfTwo-width Long = (3, refl)

-- A width is 1 to 8.
pub width_bounds : (k : ValueKind) → (1 ≤ width_of k) × (width_of k ≤ 8)
width_bounds Byte = (omega arith, omega arith)
width_bounds Boolean = (omega arith, omega arith)
width_bounds Char = (omega arith, omega arith)
width_bounds Short = (omega arith, omega arith)
width_bounds Int = (omega arith, omega arith)
width_bounds Long = (omega arith, omega arith)

-- The greater of two powers of two is one.
pub IsPowerOfTwo-max : (a b : ℕ) → IsPowerOfTwo a → IsPowerOfTwo b → IsPowerOfTwo (max a b)
IsPowerOfTwo-max a b p q = elim (cases_lt a b) [
  | inl h ↦ let e : max a b ≡ b = omega arith in (q.0, e ∙ q.1)
  | inr h ↦ let e : max a b ≡ a = omega arith in (p.0, e ∙ p.1)
]

-- A power of two is at least 1.
pub positive_power : (n : ℕ) → IsPowerOfTwo n → 1 ≤ n
positive_power n p = omega (arith, pow_pos p.0, p.1)

-- `max` on numbers.
pub ord_max_is : (a b : ℕ) → ord_max nat_cmp a b ≡ max a b
ord_max_is a b = grind (arith, nat_tests)

-- ---- what well formed layouts have

-- A well formed layout has a size and an alignment as they must be.
pub fit_of : (t : Tree) → IsWellFormed t → IsFit t
fit_of (Value k o l) w = w
fit_of (Padding n l) w = w.0
fit_of (Sequence n e l) w = w.0
fit_of (Struct ms l) w = w.0
fit_of (Union ms l) w = w.0

-- Its alignment is at least 1.
pub positive_alignment : (t : Tree) → IsWellFormed t → 1 ≤ alignment_of t
positive_alignment t w = positive_power (alignment_of t) (fit_of t w).power

-- ---- single layouts

-- A value with its natural alignment.
pub value_sound : (k : ValueKind) (n : ℕ) → n ≡ width_of k → IsSound n (Value k Little (plain n))
value_sound k n e =
    let b = width_bounds k in
    let p = IsPowerOfTwo-width k in
    record {
      size = e;
      well_formed = record { power = (p.0, e ∙ p.1); least = omega arith; greatest = omega arith; size = omega arith };
      named = tt;
    }

-- ---- another alignment

-- A layout that isn't padding fits with another alignment that it may have.
realigned_fit : (n : ℕ) (l : Label) (t : Tree) → IsFit t → ¬ (IsPadding t) → l.alignment ≡ n → IsPowerOfTwo n → n ≤ limit → least_of t ≤ n
    → IsFit (relabelled l t)
realigned_fit n l (Value k o m) f other e p h least = record { power = (p.0, e ∙ p.1); least = omega arith; greatest = omega arith; size = f.size }
realigned_fit n l (Padding k m) f other e p h least = absurd (other tt)
realigned_fit n l (Sequence k u m) f other e p h least = record { power = (p.0, e ∙ p.1); least = omega arith; greatest = omega arith; size = f.size }
realigned_fit n l (Struct ms m) f other e p h least = record { power = (p.0, e ∙ p.1); least = omega arith; greatest = omega arith; size = f.size }
realigned_fit n l (Union ms m) f other e p h least = record { power = (p.0, e ∙ p.1); least = omega arith; greatest = omega arith; size = f.size }

-- So it is sound with it.
pub realigned_sound : (kept n : ℕ) (l : Label) (t : Tree) → IsSound kept t → ¬ (IsPadding t) → l.alignment ≡ n → IsNameIfAny l.name → IsPowerOfTwo n
    → n ≤ limit → least_of t ≤ n → IsSound kept (relabelled l t)
realigned_sound kept n l (Value k o m) s other e name p h least =
    record { size = s.size; well_formed = realigned_fit n l (Value k o m) s.well_formed other e p h least; named = name }
realigned_sound kept n l (Padding k m) s other e name p h least = absurd (other tt)
realigned_sound kept n l (Sequence k u m) s other e name p h least =
    let fit = realigned_fit n l (Sequence k u m) s.well_formed.0 other e p h least in
    record { size = s.size; well_formed = (fit, s.well_formed.1, s.well_formed.2); named = (name, s.named.1) }
realigned_sound kept n l (Struct ms m) s other e name p h least =
    let fit = realigned_fit n l (Struct ms m) s.well_formed.0 other e p h least in
    record { size = s.size; well_formed = (fit, s.well_formed.1); named = (name, s.named.1) }
realigned_sound kept n l (Union ms m) s other e name p h least =
    let fit = realigned_fit n l (Union ms m) s.well_formed.0 other e p h least in
    record { size = s.size; well_formed = (fit, s.well_formed.1); named = (name, s.named.1) }
