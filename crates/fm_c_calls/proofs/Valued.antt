-- The values of a path in bytes, and what their bytes mean.
use Rattle.std.proofs.Common.{◌≡◌, ℕ, ◌*◌, ◌%◌, ◌/◌, ◌+◌, ◌^◌, ◌<◌, ◌≤◌, List, [], ◌∷◌, length, map, take, drop, Result, Ok, Err, IfOk, refl, sym, ap, subst, ◌∙◌, arith}
use Rattle.std.{specs.Prelude.{ℤ}, proofs.{Math.Nat.{div-mul-le_self, mod-lt, mul-le-mul_left}, lemmas.List.{length-drop, length-take-le, take_all, Elements.{All-drop, All-take}, FromFn.{length-map-range_with_len}}}}
use Rattle.fm_base_bytes.{specs.Bytes.{AreBytes, bytes_of, number_of}, proofs.Bytes.{bytes_of-number_of, number_of-lt}}
use Rattle.byteorder.specs.Endian.{little_number}
use Rattle.fm_lanes.{specs.{Coding.{lowest_first, turned}, Kind.{width_of}, declared.order.Order.{Order}}, proofs.{Reading.{little_number-number_of}, Turning.{turned_number}}}
use Rattle.fm_base.specs.declared.refusal.Refusal.{Refusal}
use Rattle.fm_layout.specs.{Tree.{Tree}, Size.{size_of}}
use Rattle.fm_path.specs.Resolution.{Resolution, StaysInside}
use Rattle.fm_path_meaning.specs.{declared.dim.Dim.{Dim}, Steady.{IsSteady}, Walk.{offset_at}}
use Rattle.fm_records_query.specs.{Plan.{value_count}, Records.{IsRecord}}
use Rattle.fm_group.{specs.Values.{AreValued, all_numbers, count_of, indices_at, number_in, offset_of}, proofs.Ordinals.{admitted, by_ordinal, resolved_few, some_left, value_inside}}
use Rattle.fm_group_lists.specs.Groups.{Group}
use Rattle.fm_c_calls.specs.{Grouped.{HasValues, once, values_in}, Placed.{IsPlacedIn}, Whole.{AreWhole}}

-- The path that bytes spell, in records.
pub has_values : {t : Tree} (path : List ℕ) → IsRecord t → (result : Result Resolution Refusal) → IfOk result (IsPlacedIn path t) → IfOk result StaysInside
    → IfOk result HasValues
has_values {t} path h (Err e) p i = tt
has_values {t} path h (Ok r) p i = record {
  sized = subst (λ n. 0 < n) (sym p.resolved.root_size) h.sized;
  multiple = ap (λ n. n % r.root_alignment) p.resolved.root_size ∙ ap (λ n. size_of t % n) p.resolved.root_alignment ∙ h.even;
  stays = i;
  few = resolved_few p.steps t r p.resolved;
}

pub are_valued : {r : Resolution} {bytes : List ℕ} → HasValues r → AreWhole bytes r.root_size → AreValued (values_in r bytes)
are_valued {r} {bytes} h w = record {
  sized = h.sized;
  multiple = h.multiple;
  whole = w.whole;
  aligned = omega arith;
  stays = h.stays;
  few = h.few;
  ends = (let short = w.short in omega (arith, short));
}

-- The number that so many bytes make, turned as the order says.
pub turned_bytes : (order : Order) (w : ℕ) (bs : List ℕ) → AreBytes bs → length bs ≡ w → turned w (little_number w bs) order ≡ number_of (lowest_first order bs)
turned_bytes order w bs are size =
    let read : little_number w bs ≡ number_of bs = little_number-number_of w bs ∙ ap number_of (take_all w bs (omega (arith, size))) in
    let small : number_of bs < 2 ^ (8 * w) = subst (λ n. number_of bs < 2 ^ (8 * n)) size (number_of-lt bs are) in
    let back : bytes_of w (number_of bs) ≡ bs = ap (λ n. bytes_of n (number_of bs)) (sym size) ∙ bytes_of-number_of bs are in
    ap (λ n. turned w n order) read ∙ turned_number w (number_of bs) order small ∙ ap (λ xs. number_of (lowest_first order xs)) back

-- ---- one value after the other

module _ {r : Resolution} {bytes : List ℕ} (h : HasValues r) (w : AreWhole bytes r.root_size) where
  pub count_small : length bytes < 2 ^ 40
  count_small = let short = w.short in omega (arith, short)

  -- how many a record has, as it is counted
  pub each_is : (each : ℕ) → each ≡ value_count r.dims % 2 ^ 64 → each ≡ value_count r.dims
  each_is each e =
      let few = h.few in
      let small = h.stays.small in
      omega (arith, e, few, small)

  -- there are fewer than 2^64
  pub numbers_few : length (all_numbers r bytes) < 2 ^ 64
  numbers_few =
      let v = values_in r bytes in
      let many : length (all_numbers r bytes) ≡ count_of v = ap length (sym (by_ordinal v bytes (are_valued h w) refl)) ∙ length-map-range_with_len (number_in v bytes) 0 (count_of v) in
      let most : length bytes / r.root_size * value_count r.dims ≤ length bytes / r.root_size * r.root_size = mul-le-mul_left (length bytes / r.root_size) h.few in
      let all = div-mul-le_self (length bytes) r.root_size in
      let small = count_small in
      omega (arith, many, most, all, small)

  module _ (n : ℕ) (below : n < count_of (values_in r bytes)) where
    pub some_each : 0 < value_count r.dims
    some_each = some_left (length bytes / r.root_size) (value_count r.dims) n below

    pub steady_there : IsSteady r.offset r.dims (indices_at r.dims (n % value_count r.dims))
    steady_there = h.stays.steady (indices_at r.dims (n % value_count r.dims)) (admitted r.dims (n % value_count r.dims) (mod-lt n some_each))

    -- where it stands
    pub stands_at : (at each off size : ℕ) (ds : List Dim) → ds ≡ r.dims → at ≡ r.offset → size ≡ r.root_size → each ≡ value_count ds % 2 ^ 64
        → off ≡ offset_at at ds (indices_at ds (n % each)) → n / each * size + off ≡ offset_of (values_in r bytes) n
    stands_at at each off size ds same_dims same_at same_size counted is =
        let e : each ≡ value_count r.dims = each_is each (counted ∙ ap (λ (xs : List Dim). value_count xs % 2 ^ 64) same_dims) in
        let there : off ≡ offset_at r.offset r.dims (indices_at r.dims (n % value_count r.dims)) =
        is ∙ ap (λ (xs : List Dim). offset_at at xs (indices_at xs (n % each))) same_dims
        ∙ ap (λ k. offset_at k r.dims (indices_at r.dims (n % each))) same_at
        ∙ ap (λ m. offset_at r.offset r.dims (indices_at r.dims (n % m))) e in
        ap (λ k. n / each * size + k) there
        ∙ ap (λ m. n / m * size + offset_at r.offset r.dims (indices_at r.dims (n % value_count r.dims))) e
        ∙ ap (λ m. n / value_count r.dims * m + offset_at r.offset r.dims (indices_at r.dims (n % value_count r.dims))) same_size

    pub lies_there : offset_of (values_in r bytes) n + width_of r.value.kind ≤ length bytes
    lies_there = value_inside (values_in r bytes) (are_valued h w) n below

-- the pairs of the numbers of values
pub pairs_once : (f : ℕ → ℤ) (ns : List ℕ) → ◌≡◌ {A = List Group} (map (λ n. (f n, 1)) ns) (once (map f ns))
pairs_once f [] = refl
pairs_once f (n ∷ ns) = ap (λ (gs : List Group). (f n, 1) ∷ gs) (pairs_once f ns)

-- ---- the bytes of a value

pub bytes_there : (at width : ℕ) (bytes : List ℕ) → AreBytes bytes → at + width ≤ length bytes → AreBytes (take width (drop at bytes)) × (length (take width (drop at bytes)) ≡ width)
bytes_there at width bytes are within =
    let rest = length-drop at bytes in
    (All-take (λ b. b < 256) width (drop at bytes) (All-drop (λ b. b < 256) at bytes are), length-take-le width (drop at bytes) (omega (arith, within, rest)))
