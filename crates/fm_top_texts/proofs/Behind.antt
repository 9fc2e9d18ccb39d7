-- The lines that are left behind the first ones, and where the texts stand that they are of.
use Rattle.std.proofs.Common.{◌≡◌, ℕ, suc, ◌+◌, ◌-◌, ◌*◌, ◌/◌, ◌<◌, ◌≤◌, List, [], ◌++◌, ap, arith}
use Rattle.std.{specs.List.{flat_map, range_with_len}, proofs.Math.Nat.{div-mul-le_self, mul-le-mul_right}}
use Rattle.fm_top_texts.specs.{declared.plan.TextPlan.{TextPlan}, Lines.{record_line}, Plans.{LiesWithin}}

-- the lines of the records from number k on, up to number n
abbrev pub lines_between : TextPlan → List ℕ → ℕ → ℕ → List ℕ
lines_between p file k n = flat_map (record_line p file) (range_with_len k (n - k))

-- a line, and then those behind it
pub next_line : (p : TextPlan) (file : List ℕ) (k n : ℕ) → k < n → lines_between p file k n ≡ record_line p file k ++ lines_between p file (k + 1) n
next_line p file k n more =
    let one : n - k ≡ suc (n - (k + 1)) = omega arith in
    ap (λ count. flat_map (record_line p file) (range_with_len k count)) one

pub no_line : (p : TextPlan) (file : List ℕ) (k n : ℕ) → n ≤ k → lines_between p file k n ≡ []
no_line p file k n past =
    let none : n - k ≡ 0 = omega arith in
    ap (λ count. flat_map (record_line p file) (range_with_len k count)) none

-- a record's text ends in the file
pub ends_in_file : (p : TextPlan) (k count : ℕ) → LiesWithin p → k < count / p.size → k * p.size + p.offset + p.count ≤ count
ends_in_file p k count within below =
    let size = p.size in
    let most : count / size * size ≤ count = div-mul-le_self count size in
    let rows : (k + 1) * size ≤ count / size * size = mul-le-mul_right size (let h : k + 1 ≤ count / size = omega arith in h) in
    let next : (k + 1) * size ≡ k * size + size = grind arith in
    omega arith
