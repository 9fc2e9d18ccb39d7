-- What a query answers, as numbers alone.
use Rattle.std.specs.{Prelude.{◌≡◌, ℕ, ◌/◌, ◌%◌, ◌^◌, List, [], ◌∷◌, length, ℤ, pos, Option, None, Some, Result, Ok, Err}, List.{flat_map}}
use Rattle.fm_base.specs.declared.refusal.Refusal.{Refusal}
use Rattle.fm_base_bytes.specs.Signed.{signed_of, unsigned_of}
use Rattle.fm_records.specs.{declared.found.Found.{Found, TheVariants.{Count, Sum, Least, Greatest, Listed}}, Answers.{answer}}
use Rattle.fm_records_query.specs.Plan.{Plan}
use Rattle.fm_c_calls.specs.{Held.{IsAnswer, IsPlanned, IsUnanswered}, Output.{Fills}}

-- 64 bits as the number whose two's complement they are
abbrev pub long_of : ℕ → ℤ
long_of n = signed_of 8 n

-- the low and the high half of the two's complement in 128 bits
abbrev pub halves : ℤ → List ℤ
halves x = long_of (unsigned_of 16 x % 2 ^ 64) ∷ long_of (unsigned_of 16 x / 2 ^ 64) ∷ []

abbrev pub sum_numbers : ℤ → List ℤ
sum_numbers x = pos 1 ∷ pos 2 ∷ halves x

abbrev pub end_numbers : ℤ → Option ℤ → List ℤ
end_numbers form None = form ∷ pos 0 ∷ []
end_numbers form (Some x) = form ∷ pos 1 ∷ x ∷ []

abbrev pub listed_numbers : List ℤ → List ℤ
listed_numbers xs = pos 4 ∷ long_of (length xs) ∷ xs

-- an item's form, how many numbers it found, and these
abbrev pub found_numbers : Found → List ℤ
found_numbers (Count n) = pos 0 ∷ pos 1 ∷ long_of n ∷ []
found_numbers (Sum x) = sum_numbers x
found_numbers (Least o) = end_numbers (pos 2) o
found_numbers (Greatest o) = end_numbers (pos 3) o
found_numbers (Listed xs) = listed_numbers xs

-- those of all items, in their order
abbrev pub numbers_of : List Found → List ℤ
numbers_of found = flat_map found_numbers found

pub record IsNumbered (json query records : List ℕ) (old new : List ℤ) (n : ℕ) : Type 0 where
  pub plan : Plan
  pub planned : IsPlanned json query plan
  pub found : List Found
  pub answer_is : IsAnswer plan records found
  pub fills : Fills old new (numbers_of (answer plan records)) n

-- the numbers were put, as far as there was room; or it was refused and nothing was
abbrev pub PutsNumbers : List ℕ → List ℕ → List ℕ → List ℤ → List ℤ → Result ℕ Refusal → Type 0
PutsNumbers json query records old new (Ok n) = IsNumbered json query records old new n
PutsNumbers json query records old new (Err e) = (new ≡ old) × IsUnanswered json query records e
