-- Sums of the values of records.
use Rattle.std.proofs.Common.{◌≡◌, ℕ, suc, ◌+◌, ◌-◌, ◌*◌, ◌/◌, ◌%◌, ◌<◌, ◌≤◌, ◌^◌, List, ◌∷◌, length, take, drop, map, ap, sym, subst, ◌∙◌, arith, mul_assoc}
use Rattle.std.proofs.{Math.Nat.{div-mul-le_self, mod-add-div', mul-add-mod_self_right, mul-le-mul_right}, lemmas.List.{drop-drop}}
use Rattle.std.{specs.Prelude.{ℤ, pos, negsuc, ◌+ℤ◌, ◌≤ℤ◌}, proofs.{Math.IntN.{+ℤ_assoc}, lemmas.Int.{ints}}}
use lib.Signed.{mag}
use Rattle.fm_lanes.specs.{Coding.{value_of}, Value.{number_of_value}, declared.{order.Order.TheVariants.{Little}, value_kind.ValueKind.{ValueKind}}}
use Rattle.fm_lanes.specs.{declared.value.Value.{Value}, Kind.{width_of}}
use Rattle.fm_layout.specs.{Tree.{Tree}, Size.{size_of}, Made.{value_of as natural}}
use Rattle.fm_segment.{specs.Alone.{Means}, proofs.Alone.{take-part}}
use Rattle.fm_records.specs.{Answers.{sum_of}, Records.{pieces}}
use Rattle.fm_top.specs.Records.{number_at}

-- at most 2^63 from 0 for each of so many values
pub record IsWithin (count : ℕ) (sum : ℤ) : Type 0 where
  pub low : negsuc (count * 2 ^ 63) ≤ℤ sum
  pub high : sum ≤ℤ pos (count * 2 ^ 63)

-- a place that is aligned in a record of an aligned size is aligned in the file
pub whole_place : (width k size at : ℕ) → size % width ≡ 0 → at % width ≡ 0 → (k * size + at) % width ≡ 0
whole_place width k size at size_whole at_whole =
    let q = size / width in
    let is : q * width ≡ size = grind (arith, mod-add-div' size width, size_whole) in
    let product : k * size ≡ (k * q) * width = ap (λ n. k * n) (sym is) ∙ sym (mul_assoc k q width) in
    ap (λ n. (n + at) % width) product ∙ mul-add-mod_self_right (k * q) width at ∙ at_whole

-- a value of a record ends in the file
pub ends_in_file : (k size at width count : ℕ) → k < count / size → at + width ≤ size → k * size + at + width ≤ count
ends_in_file k size at width count below within =
    let most : count / size * size ≤ count = div-mul-le_self count size in
    let rows : (k + 1) * size ≤ count / size * size = mul-le-mul_right size (let h : k + 1 ≤ count / size = omega arith in h) in
    let next : (k + 1) * size ≡ k * size + size = grind arith in
    omega arith

-- the number of a value that was got by its natural layout
pub number_got : (kind : ValueKind) (t : Tree) (place : ℕ) (file : List ℕ) (v : Value) (x : ℤ) → t ≡ natural kind
    → Means t (take (size_of t) (drop place file)) v → x ≡ number_of_value v → x ≡ number_at kind place file
number_got kind t place file v x is means e =
    let P : Tree → Type 0 = λ u. Means u (take (size_of u) (drop place file)) v in
    e ∙ ap number_of_value (subst P is means)

-- the pieces from the k-th on are the k-th and those behind it
pieces-next : (count size k : ℕ) (file : List ℕ) → k < count
    → pieces (count - k) size (drop (k * size) file) ≡ take size (drop (k * size) file) ∷ pieces (count - (k + 1)) size (drop ((k + 1) * size) file)
pieces-next count size k file below =
    let more : count - k ≡ suc (count - (k + 1)) = omega arith in
    let behind : k * size + size ≡ (k + 1) * size = grind arith in
    ap (λ n. pieces n size (drop (k * size) file)) more
    ∙ ap (λ bytes. take size (drop (k * size) file) ∷ pieces (count - (k + 1)) size bytes)
    (drop-drop size (k * size) file ∙ ap (λ n. drop n file) behind)

-- the sum of the values of the records from the k-th on
abbrev pub rest_from : ValueKind → ℕ → ℕ → ℕ → List ℕ → ℤ
rest_from kind k size at file = sum_of (map (number_at kind at) (pieces (length file / size - k) size (drop (k * size) file)))

-- one more value is added, and one record fewer is left
pub next_sum : (kind : ValueKind) (size at k : ℕ) (file : List ℕ) (sum x new all : ℤ) → k < length file / size → at + width_of kind ≤ size
    → new ≡ sum +ℤ x → x ≡ number_at kind (k * size + at) file
    → sum +ℤ rest_from kind k size at file ≡ all → new +ℤ rest_from kind (k + 1) size at file ≡ all
next_sum kind size at k file sum x new all below within is_new is_x before =
    let count = length file / size in
    let rest = rest_from kind (k + 1) size at file in
    let value : number_at kind at (take size (drop (k * size) file)) ≡ x =
    ap (λ bytes. number_of_value (value_of kind Little bytes)) (take-part (width_of kind) at size (k * size) file within) ∙ sym is_x in
    let front : rest_from kind k size at file ≡ x +ℤ rest =
    ap (λ all_pieces. sum_of (map (number_at kind at) all_pieces)) (pieces-next count size k file below) ∙ ap (λ n. n +ℤ rest) value in
    ap (λ n. n +ℤ rest) is_new ∙ +ℤ_assoc sum x rest ∙ ap (λ n. sum +ℤ n) (sym front) ∙ before

-- one more value is at most 2^63 from 0
pub IsWithin-more : (k : ℕ) (sum x new : ℤ) → IsWithin k sum → mag x < 2 ^ 63 → new ≡ sum +ℤ x → IsWithin (k + 1) new
IsWithin-more k sum x new within small is =
    rw is (record {
      low = omega (arith, ints, within.low);
      high = omega (arith, ints, within.high);
    })
