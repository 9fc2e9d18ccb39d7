-- Where a slice lies that was given.
use Rattle.std.proofs.Common.{◌≡◌, ℕ, ◌+◌, ◌-◌, ◌/◌, ◌%◌, ◌≤◌, Bool, true, false, ap, ◌∙◌, Ok, Err, arith, if◌then◌else◌, nat_le, refl}
use Rattle.std.{proofs.{lemmas.Bool.Decides.{nat_tests}, Math.Nat.{mul-mod_left}}, specs.Int.{is_power_of_two}}
use Rattle.fm_base.specs.{declared.refusal.Refusal.{TheVariants.{BadAlignment, Bounds}}, Machine.{rounded_up}}
use Rattle.fm_base.proofs.Growing.{le-rounded_up, power_pos}
use Rattle.fm_segment.specs.Region.{Region, part_of}
use Rattle.fm_text.specs.Slices.{Slicing, next_offset, next_slice, LiesFrom}

-- a slice that was given: at a power of two, at an offset from which it fits
record IsGiven (s r : Region) (off size align : ℕ) : Type 0 where
  power : is_power_of_two align ≡ true
  fits : off + size ≤ s.size
  is : r ≡ part_of off size s

-- What passed both tests.
given_by : (s r : Region) (off size align : ℕ) (pow fit : Bool) → is_power_of_two align ≡ pow → nat_le (off + size) s.size ≡ fit
    → Ok r ≡ (if pow then (if fit then Ok (part_of off size s) else Err Bounds) else Err BadAlignment) → IsGiven s r off size align
given_by s r off size align true true p f e = record { power = p; fits = grind (arith, nat_tests); is = cc }
given_by s r off size align true false p f e = absurd (cc)
given_by s r off size align false fit p f e = absurd (cc)

-- It lies behind what was given before, in the segment, aligned.
pub lies_from : (x : Slicing) (size align : ℕ) (r : Region) → Ok r ≡ next_slice x size align → LiesFrom x size align r
lies_from x size align r answer =
    let g = given_by x.segment r (next_offset x align) size align _ _ refl refl answer in
    let s = x.segment in
    let pos = power_pos align g.power in
    let up = le-rounded_up (x.segment.first + x.used) align pos in
    let first : r.first ≡ x.segment.first + (rounded_up (x.segment.first + x.used) align - x.segment.first) = ap (λ (y : Region). y.first) g.is in
    let bytes : r.size ≡ size = ap (λ (y : Region). y.size) g.is in
    let fits = g.fits in
    let at : r.first ≡ rounded_up (x.segment.first + x.used) align = omega arith in
    record {
      arena = ap (λ (y : Region). y.arena) g.is;
      bytes = bytes;
      behind = omega arith;
      inside = omega arith;
      aligned = ap (λ n. n % align) at ∙ mul-mod_left ((s.first + x.used + (align - 1)) / align) align;
    }
