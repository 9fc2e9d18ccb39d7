-- Where words stand, and what refuses a call before it acts.
use Rattle.std.proofs.Common.{◌≡◌, ℕ, ◌+◌, ◌*◌, ◌/◌, ◌%◌, ◌≤◌, ◌^◌, ◌&&◌, Bool, true, false, if◌then◌else◌, nat_le, nat_eq, nat_lt, subst, arith, Ok, Err}
use Rattle.fm_base.specs.{declared.refusal.Refusal.{Refusal, TheVariants.{Bounds, Misaligned, ReadOnly}}, Does.{CanReach, CanReachAll}, View.{View, given_in}}
use Rattle.fm_segment_access.{specs.Found.{if_placed}, proofs.Causes.{placed_ok}}
use Rattle.fm_segment.specs.Region.{Region}
use Rattle.fm_visit.specs.{Acts.{IsOfArguments}, Learnt.{IsIn, place_of_words, place_to_put}}

-- The tests of a place refuse by the arguments alone.
pub placed_err : (offset size align first room p : ℕ) (e : Refusal) → if_placed offset size align first room (Ok p) ≡ Err e → IsOfArguments e
placed_err offset size align first room p e h = by_tests (nat_le (offset + size) room) (nat_eq ((first + offset) % align) 0) h where
  by_tests : (fits even : Bool) → (if fits then (if even then Ok p else Err Misaligned) else Err Bounds) ≡ Err e → IsOfArguments e
  by_tests true true h = absurd (cc)
  by_tests true false h = let same : Misaligned ≡ e = cc in subst IsOfArguments same tt
  by_tests false even h = let same : Bounds ≡ e = cc in subst IsOfArguments same tt

pub words_err : (offset count : ℕ) (r : Region) (e : Refusal) → place_of_words offset count r ≡ Err e → IsOfArguments e
words_err offset count r e h = placed_err offset (8 * count) 8 r.first r.size (r.first + offset) e h

pub put_err : (offset count : ℕ) (r : Region) (e : Refusal) → place_to_put offset count r ≡ Err e → IsOfArguments e
put_err offset count r e h = by_test (nat_lt 0 count && r.read_only) h where
  by_test : (read_only : Bool) → (if read_only then Err ReadOnly else place_of_words offset count r) ≡ Err e → IsOfArguments e
  by_test true h = let same : ReadOnly ≡ e = cc in subst IsOfArguments same tt
  by_test false h = words_err offset count r e h

-- what is put is put where it would be read
pub put_ok : (offset count : ℕ) (r : Region) (p : ℕ) → place_to_put offset count r ≡ Ok p → place_of_words offset count r ≡ Ok p
put_ok offset count r p h = by_test (nat_lt 0 count && r.read_only) h where
  by_test : (read_only : Bool) → (if read_only then Err ReadOnly else place_of_words offset count r) ≡ Ok p → place_of_words offset count r ≡ Ok p
  by_test true h = absurd (cc)
  by_test false h = h

-- the words lie in the segment, from a word's start on
pub record WordsAreAt (r : Region) (offset count p : ℕ) : Type 0 where
  pub within : offset + 8 * count ≤ r.size
  pub is : p ≡ r.first + offset
  pub even : 8 * (p / 8) ≡ p

pub words_are_at : (offset count : ℕ) (r : Region) (p : ℕ) → place_of_words offset count r ≡ Ok p → WordsAreAt r offset count p
words_are_at offset count r p h =
    let q = placed_ok offset (8 * count) 8 r.first r.size (Ok (r.first + offset)) p h in
    let found : Ok (r.first + offset) ≡ Ok p = q.2 in
    let same : p ≡ r.first + offset = cc in
    let even : (r.first + offset) % 8 ≡ 0 = q.1 in
    record { within = q.0; is = same; even = omega arith }

-- Inside the arena they can be reached.
pub words_reach : {v : View} {r : Region} (offset count : ℕ) {p : ℕ} → IsIn v r.arena r → place_of_words offset count r ≡ Ok p → p + 8 * count ≤ 2 ^ 40
    → CanReachAll v (p / 8) count
words_reach {v} {r} offset count {p} can is small =
    let a = words_are_at offset count r p is in
    let within = a.within in
    let even = a.even in
    let same = a.is in
    let given : r.first + r.size ≤ given_in v r.arena = can.known.given in
    record { id = r.arena; inside = can.inside; given = omega arith; small = omega arith }

pub word_reaches : {v : View} {r : Region} (offset : ℕ) {p : ℕ} → IsIn v r.arena r → place_of_words offset 1 r ≡ Ok p → CanReach v (p / 8)
word_reaches {v} {r} offset {p} can is =
    let a = words_are_at offset 1 r p is in
    let within = a.within in
    let even = a.even in
    let same = a.is in
    let given : r.first + r.size ≤ given_in v r.arena = can.known.given in
    record { id = r.arena; inside = can.inside; given = omega arith }
