-- The longest front of bytes that is UTF-8.
use Rattle.std.proofs.Common.{◌≡◌, ℕ, zero, suc, ◌<◌, ◌≤◌, Bool, true, false, if◌then◌else◌, List, length, take, refl, sym, subst, arith, inl, inr}
use Rattle.std.proofs.lemmas.{Bool.{cases_lt}, List.{take_all}, Str.{IsUtf8-nil, IsUtf8-from_is_utf8, is_utf8-from_IsUtf8}}
use Rattle.std.specs.{Str.{IsUtf8, IsValidUpTo, is_utf8}, Str.Lossy.{valid_len_up_to, utf8_valid_len}}

-- of the fronts of up to m bytes it is the longest that is UTF-8
record IsLongest (bs : List ℕ) (m n : ℕ) : Type 0 where
  within : n ≤ m
  front : IsUtf8 (take n bs)
  longest : (k : ℕ) → n < k → k ≤ m → ¬ (IsUtf8 (take k bs))

-- With one byte more.
longest_on : (bs : List ℕ) (m n : ℕ) (b : Bool) → is_utf8 (take (suc m) bs) ≡ b → IsLongest bs m n → IsLongest bs (suc m) (if b then suc m else n)
longest_on bs m n true e l = record { within = omega arith; front = IsUtf8-from_is_utf8 (take (suc m) bs) e; longest = λ k p q. absurd (omega arith) }
longest_on bs m n false e l =
    let within = l.within in
    record {
      within = omega arith;
      front = l.front;
      longest = λ k p q u. elim (cases_lt m k) [
        | inl last ↦ (
            let same : k ≡ suc m = omega arith in
            let passes : is_utf8 (take (suc m) bs) ≡ true = is_utf8-from_IsUtf8 (take (suc m) bs) (subst (λ i. IsUtf8 (take i bs)) same u) in
            absurd (let no : ⊥ = cc in no)
            )
        | inr before ↦ absurd (l.longest k p before u)
      ];
    }

-- The one that std searches for.
longest_of : (bs : List ℕ) (m : ℕ) → IsLongest bs m (valid_len_up_to bs m)
longest_of bs zero = record { within = omega arith; front = IsUtf8-nil; longest = λ k p q. absurd (omega arith) }
longest_of bs (suc m) = longest_on bs m (valid_len_up_to bs m) _ refl (longest_of bs m)

-- What std tells of bytes that aren't UTF-8.
pub is_valid_up_to : (bs : List ℕ) (n : ℕ) → n ≡ utf8_valid_len bs → ¬ (IsUtf8 bs) → IsValidUpTo bs n
unfolding utf8_valid_len
is_valid_up_to bs n e not =
    let l = longest_of bs (length bs) in
    let all : take (length bs) bs ≡ bs = take_all (length bs) bs (omega arith) in
    let front : IsUtf8 (take n bs) = subst (λ i. IsUtf8 (take i bs)) (sym e) l.front in
    let within = l.within in
    record {
      short = elim (cases_lt n (length bs)) [
        | inl less ↦ less
        | inr past ↦ (let same : n ≡ length bs = omega arith in absurd (not (subst IsUtf8 all (subst (λ i. IsUtf8 (take i bs)) same front))))
      ];
      front = front;
      longest = λ m more u. elim (cases_lt (length bs) m) [
        | inl past ↦ absurd (not (subst IsUtf8 (take_all m bs (omega arith)) u))
        | inr below ↦ absurd (l.longest m (omega arith) below u)
      ];
    }
