-- The first of some dims, and those behind it.
use Rattle.std.proofs.Common.{◌≡◌, ℕ, pos, ◌-◌, ◌*◌, ◌/◌, ◌%◌, ◌^◌, ◌<◌, ◌≤◌, List, [], ◌∷◌, length, take, drop, slice_index_or, refl, sym, ap, ◌∙◌, subst, arith}
use Rattle.std.proofs.{Math.Nat.{mod-lt, mul-le-mul_right}, lemmas.{List.{take_all}, Nat.{mul-mod_second}}}
use Rattle.fm_path_meaning.specs.{declared.dim.Dim.{Dim}, Steady.{IsInside, IsSteady}, Walk.{offset_at, reach}}
use Rattle.fm_records_query.specs.Plan.{value_count}
use Rattle.fm_group.{specs.Values.{indices_at}, proofs.Ordinals.{some_left}}

abbrev pub no_dim : Dim
no_dim = record { stride = pos 0; bound = 0 }

abbrev pub behind : List Dim → List Dim
behind ds = take (length ds - 1) (drop 1 ds)

pub parts : (ds : List Dim) (z : Dim) → 1 ≤ length ds → ds ≡ slice_index_or ds 0 z ∷ behind ds
parts [] z some = absurd (omega arith)
parts (d ∷ ds) z some = ap (λ (xs : List Dim). d ∷ xs) (sym (take_all (length (d ∷ ds) - 1) ds (omega arith)))

pub counts_row : (ds : List Dim) (z : Dim) (n : ℕ) → 1 ≤ length ds → n ≡ value_count (behind ds) % 2 ^ 64
    → (slice_index_or ds 0 z).bound * n % 2 ^ 64 ≡ value_count ds % 2 ^ 64
counts_row ds z n some e =
    ap (λ k. (slice_index_or ds 0 z).bound * k % 2 ^ 64) e ∙ mul-mod_second (slice_index_or ds 0 z).bound (value_count (behind ds)) (2 ^ 64)
    ∙ ap (λ (xs : List Dim). value_count xs % 2 ^ 64) (sym (parts ds z some))

-- What is asked of the n-th value, of the first dim and of those behind it.
pub record IsRow (at n : ℕ) (d : Dim) (es : List Dim) (many : ℕ) : Type 0 where
  pub some : 0 < many
  pub inside : IsInside at d.stride (n / many)
  pub steady : IsSteady (reach at d.stride (n / many)) es (indices_at es (n % many))
  pub below : n % many < value_count es
  pub few : value_count es < 2 ^ 64
  pub offset : offset_at at (d ∷ es) (indices_at (d ∷ es) n) ≡ offset_at (reach at d.stride (n / many)) es (indices_at es (n % many))

first_some : (a b m : ℕ) → m < a * b → 0 < a
first_some a b m h = some_left b a m (let same : a * b ≡ b * a = omega arith in omega (arith, h, same))

row : (at n : ℕ) (d : Dim) (es : List Dim) (many : ℕ) → n < value_count (d ∷ es) → value_count (d ∷ es) < 2 ^ 64
    → IsSteady at (d ∷ es) (indices_at (d ∷ es) n) → many ≡ value_count es % 2 ^ 64 → IsRow at n d es many
row at n d es many below few steady e =
    let some = some_left d.bound (value_count es) n below in
    let first = first_some d.bound (value_count es) n below in
    let less : 1 * value_count es ≤ d.bound * value_count es = mul-le-mul_right (value_count es) first in
    let is : many ≡ value_count es = omega (arith, e, less, few) in
    subst (IsRow at n d es) (sym is) (record {
      some = some;
      inside = steady.0;
      steady = steady.1;
      below = mod-lt n some;
      few = omega (arith, less, few);
      offset = refl;
    })

pub is_row : (at n : ℕ) (ds : List Dim) (z : Dim) (many : ℕ) → 1 ≤ length ds → n < value_count ds → value_count ds < 2 ^ 64 → IsSteady at ds (indices_at ds n)
    → many ≡ value_count (behind ds) % 2 ^ 64 → IsRow at n (slice_index_or ds 0 z) (behind ds) many
is_row at n ds z many some below few steady e =
    let p = parts ds z some in
    row at n (slice_index_or ds 0 z) (behind ds) many (subst (λ (xs : List Dim). n < value_count xs) p below)
    (subst (λ (xs : List Dim). value_count xs < 2 ^ 64) p few) (subst (λ (xs : List Dim). IsSteady at xs (indices_at xs n)) p steady) e

pub row_offset : (at n : ℕ) (ds : List Dim) (z : Dim) (many : ℕ) (result next : ℕ) → 1 ≤ length ds → IsRow at n (slice_index_or ds 0 z) (behind ds) many
    → next ≡ reach at (slice_index_or ds 0 z).stride (n / many) → result ≡ offset_at next (behind ds) (indices_at (behind ds) (n % many))
    → result ≡ offset_at at ds (indices_at ds n)
row_offset at n ds z many result next some r e is =
    is ∙ ap (λ k. offset_at k (behind ds) (indices_at (behind ds) (n % many))) e ∙ sym r.offset
    ∙ ap (λ (xs : List Dim). offset_at at xs (indices_at xs n)) (sym (parts ds z some))
