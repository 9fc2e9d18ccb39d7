use Rattle.std.{proofs.Common.{◌≡◌, ◌+◌, ◌-◌, ◌/◌, ◌^◌, ◌++◌, ℕ, suc, zero, List, take, refl, ap, ◌∙◌, arith, Ok, Err}, specs.Int.{bytes_low_first}}
use Rattle.std.{specs.{Prelude.{OnOk, is_ok, if◌then◌else◌, Result}, declared.alloc.AllocError.{AllocError}}, proofs.Math.Nat.{div-div-eq-div-mul}}
use Rattle.fm_base_bytes.{specs.Bytes.{bytes_of}, proofs.Bytes.{take-bytes_of}}
use Rattle.fm_text.proofs.reading.push_number.Goals as goal

-- The bytes of a number from one of them on, as std writes them.
low_first : (i k n : ℕ) → bytes_low_first i k n ≡ bytes_of k (n / 256 ^ i)
unfolding bytes_of
low_first i zero n = refl
low_first zero (suc k) n = let d : n / 256 ^ 0 ≡ n = omega arith in rw (low_first 1 k n, d) refl
low_first (suc i) (suc k) n =
    let d : n / 256 ^ suc i / 256 ≡ n / 256 ^ suc (suc i) = div-div-eq-div-mul n (256 ^ suc i) 256 ∙ ap (λ m. n / m) (omega arith) in
    rw (low_first (suc (suc i)) k n, d) refl

-- What stands there once they were put behind others, for which room was made.
pushed : (r : Result (Unit {0}) AllocError) (old room now put bytes : List ℕ) → room ≡ old → now ≡ (if is_ok r then room ++ put else room) → put ≡ bytes
    → OnOk r (now ≡ old ++ bytes)
pushed (Ok u) old room now put bytes same is are = is ∙ (λ j. same j ++ are j)
pushed (Err e) old room now put bytes same is are = tt

pub returns : goal.returns
returns c =
    let width = c.args.width in
    let n = c.args.number in
    let eight : 8 ≡ c.args.width + (8 - c.args.width) = omega arith in
    let whole : c.args.number / 256 ^ 0 ≡ c.args.number = omega arith in
    let low = ap (take width) (c.to_le_bytes.ensures ∙ low_first 0 8 n ∙ ap (bytes_of 8) whole ∙ ap (λ k. bytes_of k n) eight) in
    pushed c.extend_from_slice.result c.args.bytes.now.items c.reserve.new.self.items c.extend_from_slice.new.self.items (take width c.to_le_bytes.result) _
    c.reserve.ensures.items c.extend_from_slice.ensures.items (low ∙ take-bytes_of width (8 - width) n)
