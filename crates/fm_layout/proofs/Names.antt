-- Names, by a test on each byte.
use Rattle.std.proofs.Common.{◌≡◌, ℕ, ◌-◌, ◌<◌, ◌≤◌, ◌||◌, Bool, true, List, [], ◌∷◌, length, take, drop, slice_index, refl, sym, ap, ◌∙◌, arith}
use Rattle.std.{specs.List.{list_all}, proofs.lemmas.{Bool.{and_parts, and_from}, List.{take_rest}}}
use Rattle.fm_layout.specs.Name.{is_digit, is_letter, IsName, IsNameEnd}

-- Bytes that pass the test end a name.
pub IsNameEnd-from_all : (bytes : List ℕ) → list_all (λ c. is_letter c || is_digit c) bytes ≡ true → IsNameEnd bytes
IsNameEnd-from_all [] h = tt
IsNameEnd-from_all (c ∷ bytes) h =
    let p = and_parts (is_letter c || is_digit c) (list_all (λ c. is_letter c || is_digit c) bytes) h in
    (p.0, IsNameEnd-from_all bytes p.1)

-- Bytes that end a name pass the test.
pub list_all-IsNameEnd : (bytes : List ℕ) → IsNameEnd bytes → list_all (λ c. is_letter c || is_digit c) bytes ≡ true
list_all-IsNameEnd [] h = refl
list_all-IsNameEnd (c ∷ bytes) h =
    and_from (is_letter c || is_digit c) (list_all (λ c. is_letter c || is_digit c) bytes) h.0 (list_all-IsNameEnd bytes h.1)

-- A letter and what passes the test are a name.
pub name_iff : (bytes : List ℕ) (b : Bool) → 0 < length bytes → length bytes ≤ 64 → true ≡ is_letter (slice_index bytes 0)
    → b ≡ list_all (λ c. is_letter c || is_digit c) (take (length bytes - 1) (drop 1 bytes))
    → (b ≡ true → IsName bytes) × (IsName bytes → b ≡ true)
name_iff [] b some short first e = absurd (omega arith)
name_iff (c ∷ bytes) b some short first e =
    let whole : b ≡ list_all (λ c. is_letter c || is_digit c) bytes =
    e ∙ ap (list_all (λ c. is_letter c || is_digit c)) (take_rest (c ∷ bytes) 1) in
    ((λ is. (sym first, IsNameEnd-from_all bytes (sym whole ∙ is), short)), (λ is. whole ∙ list_all-IsNameEnd bytes is.1))
