-- A text is cut into lines at its newlines.
use Rattle.std.proofs.Common.{◌≡◌, refl, sym, ◌∙◌, ℕ, ◌+◌, ◌-◌, ◌<◌, ◌≤◌, zero, suc, true, false, eqb, nat_lt, Some, None, List, [], ◌∷◌, length, get_or, take, drop, arith, length-drop, add-one}
use Rattle.std.{specs.{Prelude.{position}, List.{position_or_len}}, proofs.lemmas.{Bool.{cond-true, ltb-false, false_from_ne_true}, List.{take_all}}}
use Rattle.std.proofs.lemmas.{List.{Quantifiers.{position-Some}, Sums.{fails_before_first}}, Option.{none-some}}
use Rattle.fm_script_text.specs.Scripts.{lines_of}

-- the first line ends at the first newline
lines_at : (bs : List ℕ) (i : ℕ) → i < length bs → eqb (get_or bs i 0) 10 ≡ true → ((k : ℕ) → k < i → eqb (get_or bs k 0) 10 ≡ false)
    → lines_of bs ≡ take i bs ∷ lines_of (drop (suc i) bs)
lines_at [] i lt ends others = absurd (omega arith)
lines_at (b ∷ bs) zero lt ends others = rw ends refl
lines_at (b ∷ bs) (suc i) lt ends others =
    let head : eqb b 10 ≡ false = others 0 (omega arith) in
    let rest : lines_of bs ≡ take i bs ∷ lines_of (drop (suc i) bs) = lines_at bs i (omega arith) ends (λ k h. others (suc k) (omega arith)) in
    rw (head, rest) refl

-- and is all where there is none
lines_none : (bs : List ℕ) → 0 < length bs → ((k : ℕ) → k < length bs → eqb (get_or bs k 0) 10 ≡ false) → lines_of bs ≡ bs ∷ []
lines_none [] some others = absurd (omega arith)
lines_none (b ∷ []) some others = let head : eqb b 10 ≡ false = others 0 (omega arith) in rw head refl
lines_none (b ∷ c ∷ bs) some others =
    let head : eqb b 10 ≡ false = others 0 (omega arith) in
    let rest : lines_of (c ∷ bs) ≡ (c ∷ bs) ∷ [] = lines_none (c ∷ bs) (omega arith) (λ k h. others (suc k) (omega arith)) in
    rw (head, rest) refl

-- what stands before the first newline is the first line
pub line_cut : (bs : List ℕ) (i : ℕ) → position (λ b. eqb b 10) bs ≡ Some i
    → lines_of bs ≡ take i bs ∷ lines_of (take (length bs - (i + 1)) (drop (i + 1) bs))
line_cut bs i found =
    let p = position-Some (λ b. eqb b 10) bs i 0 found in
    let all : take (length bs - (i + 1)) (drop (i + 1) bs) ≡ drop (i + 1) bs =
    take_all (length bs - (i + 1)) (drop (i + 1) bs) (omega (arith, length-drop (i + 1) bs)) in
    rw (all, add-one) (lines_at bs i p.0 p.1 p.2)

-- a text without a newline is one line
pub line_whole : (bs : List ℕ) → 0 < length bs → position (λ b. eqb b 10) bs ≡ None → lines_of bs ≡ bs ∷ []
line_whole bs some missed =
    let not : nat_lt (position_or_len (λ b. eqb b 10) bs) (length bs) ≡ false = false_from_ne_true _ (λ t.
    none-some (position_or_len (λ b. eqb b 10) bs) (sym missed ∙ cond-true _ (Some (position_or_len (λ b. eqb b 10) bs)) None t)) in
    let past : length bs ≤ position_or_len (λ b. eqb b 10) bs = ltb-false _ _ not in
    lines_none bs some (λ k h. fails_before_first (λ b. eqb b 10) bs k 0 (omega arith))
