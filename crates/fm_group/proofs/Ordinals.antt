-- Values by their ordinals.
use Rattle.std.proofs.Common.{◌≡◌, ℕ, zero, suc, ◌+◌, ◌*◌, ◌/◌, ◌%◌, ◌<◌, ◌≤◌, List, [], ◌∷◌, ◌++◌, map, take, drop, refl, sym, ap, ◌∙◌, subst, arith}
use Rattle.std.specs.{Prelude.{ℤ}, List.{flat_map, range_with_len}}
use Rattle.std.proofs.{Math.Nat.{div-lt_iff_lt-mul, div-mul-le_self, mod-lt, mul-le-mul_right}, lemmas.List.{drop-drop}}
use Rattle.fm_lanes.specs.{Coding.{value_of}, Kind.{width_of}, Value.{number_of_value}}
use Rattle.fm_path_meaning.specs.{Walk.{AreAdmitted}, declared.dim.Dim.{Dim}}
use Rattle.fm_records_query.{specs.Plan.{value_count}, proofs.Few.{values_are_few}}
use Rattle.fm_records.specs.{Reads.{LiesIn}, Records.{pieces}, Values.{index_lists, number_at, number_there, numbers_in}}
use Rattle.fm_segment.{proofs.Alone.{take-part}}
use Rattle.fm_base_lists.proofs.Mapped.{flat_map-same}
use Rattle.fm_group_lists.proofs.Blocks.{blocks}
use Rattle.fm_group.specs.Values.{AreValued, NumbersByOrdinal, ResolvedIsFew, Valued, count_of, in_record, indices_at, offset_in_record, offset_of}

pub some_left : (a b n : ℕ) → n < a * b → 0 < b
some_left a zero n h = let none : a * 0 ≡ 0 = omega arith in absurd (omega (arith, h, none))
some_left a (suc b) n h = omega arith

-- ---- indices

-- Those of an ordinal below the count are admitted.
pub admitted : (ds : List Dim) (n : ℕ) → n < value_count ds → AreAdmitted ds (indices_at ds n)
admitted [] n below = tt
admitted (d ∷ ds) n below =
    let some = some_left d.bound (value_count ds) n below in
    ((div-lt_iff_lt-mul some).1 below, admitted ds (n % value_count ds) (mod-lt n some))

-- Index lists are those of the ordinals.
pub listed : (ds : List Dim) → index_lists ds ≡ map (indices_at ds) (range_with_len 0 (value_count ds))
listed [] = refl
listed (d ∷ ds) =
    flat_map-same (λ i. map (λ is. i ∷ is) (index_lists ds)) (λ i. map (λ n. i ∷ indices_at ds n) (range_with_len 0 (value_count ds)))
    (λ i. ap (λ (iss : List (List ℕ)). map (λ is. i ∷ is) iss) (listed ds) ∙ map_twice i (range_with_len 0 (value_count ds))) (range_with_len 0 d.bound)
    ∙ blocks (λ i n. i ∷ indices_at ds n) (value_count ds) d.bound
  where
    map_twice : (i : ℕ) (ns : List ℕ) → map (λ is. i ∷ is) (map (indices_at ds) ns) ≡ map (λ n. i ∷ indices_at ds n) ns
    map_twice i [] = refl
    map_twice i (n ∷ ns) = ap (λ (iss : List (List ℕ)). (i ∷ indices_at ds n) ∷ iss) (map_twice i ns)

-- ---- places

module _ (v : Valued) (are : AreValued v) where
  -- A value's record.
  record_below : (n : ℕ) → n < count_of v → n / in_record v < v.records.size / v.path.root_size
  record_below n below = (div-lt_iff_lt-mul (some_left (v.records.size / v.path.root_size) (in_record v) n below)).1 below

  index_below : (n : ℕ) → n < count_of v → n % in_record v < in_record v
  index_below n below = mod-lt n (some_left (v.records.size / v.path.root_size) (in_record v) n below)

  pub offset_inside : (n : ℕ) → n < in_record v → offset_in_record v n + width_of v.path.value.kind ≤ v.path.root_size
  offset_inside n below = are.stays.inside (indices_at v.path.dims n) (admitted v.path.dims n below)

  -- It stands among the records.
  pub value_inside : (n : ℕ) → n < count_of v → offset_of v n + width_of v.path.value.kind ≤ v.records.size
  value_inside n below =
      let before = record_below n below in
      let inside = offset_inside (n % in_record v) (index_below n below) in
      let S = v.path.root_size in
      let here : (n / in_record v + 1) * v.path.root_size ≤ v.records.size / v.path.root_size * v.path.root_size =
      mul-le-mul_right v.path.root_size (omega (arith, before)) in
      let whole = div-mul-le_self v.records.size v.path.root_size in
      let next : (n / in_record v + 1) * v.path.root_size ≡ n / in_record v * v.path.root_size + v.path.root_size = omega arith in
      omega (arith, inside, here, whole, next)

  pub value_lies : (n : ℕ) → n < count_of v → LiesIn v.records (v.records.first + offset_of v n) (width_of v.path.value.kind)
  value_lies n below = let inside = value_inside n below in record { from = omega arith; within = omega (arith, inside) }

-- ---- all numbers

module _ (v : Valued) (are : AreValued v) (bytes : List ℕ) where
  -- the number of a value of a record
  abbrev number_of : ℕ → ℕ → ℤ
  number_of k n = number_there v.path.value.kind v.path.value.order (k * v.path.root_size + offset_in_record v n) bytes

  -- one of a record's bytes, or of all
  one_number : (k n : ℕ) → n < in_record v
      → number_at v.path (indices_at v.path.dims n) (take v.path.root_size (drop (k * v.path.root_size) bytes))
      ≡ number_there v.path.value.kind v.path.value.order (k * v.path.root_size + offset_in_record v n) bytes
  one_number k n below = ap (λ (bs : List ℕ). number_of_value (value_of v.path.value.kind v.path.value.order bs))
      (take-part (width_of v.path.value.kind) (offset_in_record v n) v.path.root_size (k * v.path.root_size) bytes (offset_inside v are n below))

  row : (k from count : ℕ) → from + count ≤ in_record v
      → map (λ is. number_at v.path is (take v.path.root_size (drop (k * v.path.root_size) bytes))) (map (indices_at v.path.dims) (range_with_len from count))
      ≡ map (number_of k) (range_with_len from count)
  row k from zero most = refl
  row k from (suc count) most =
      ap (λ x. x ∷ map (λ is. number_at v.path is (take v.path.root_size (drop (k * v.path.root_size) bytes)))
      (map (indices_at v.path.dims) (range_with_len (from + 1) count))) (one_number k from (omega (arith, most)))
      ∙ ap (λ (xs : List ℤ). number_of k from ∷ xs) (row k (from + 1) count (omega (arith, most)))

  -- those of one record
  one_record : (k : ℕ) → numbers_in v.path (take v.path.root_size (drop (k * v.path.root_size) bytes)) ≡ map (number_of k) (range_with_len 0 (in_record v))
  one_record k =
      ap (λ (iss : List (List ℕ)). map (λ is. number_at v.path is (take v.path.root_size (drop (k * v.path.root_size) bytes))) iss) (listed v.path.dims)
      ∙ row k 0 (in_record v) (omega arith)

  -- those of so many records, from one on
  all_records : (k count : ℕ) → flat_map (numbers_in v.path) (pieces count v.path.root_size (drop (k * v.path.root_size) bytes))
      ≡ flat_map (λ i. map (number_of i) (range_with_len 0 (in_record v))) (range_with_len k count)
  all_records k zero = refl
  all_records k (suc count) =
      let next : k * v.path.root_size + v.path.root_size ≡ (k + 1) * v.path.root_size = omega arith in
      ap (λ (ns : List ℤ). ns ++ flat_map (numbers_in v.path) (pieces count v.path.root_size (drop v.path.root_size (drop (k * v.path.root_size) bytes))))
      (one_record k)
      ∙ ap (λ (bs : List ℕ). map (number_of k) (range_with_len 0 (in_record v)) ++ flat_map (numbers_in v.path) (pieces count v.path.root_size bs))
      (drop-drop v.path.root_size (k * v.path.root_size) bytes ∙ ap (λ n. drop n bytes) next)
      ∙ ap (λ (ns : List ℤ). map (number_of k) (range_with_len 0 (in_record v)) ++ ns) (all_records (k + 1) count)

pub by_ordinal : NumbersByOrdinal
by_ordinal v bytes are size =
    let none : 0 * v.path.root_size ≡ 0 = omega arith in
    sym (blocks (number_of v are bytes) (in_record v) (v.records.size / v.path.root_size))
    ∙ sym (all_records v are bytes 0 (v.records.size / v.path.root_size))
    ∙ ap (λ n. flat_map (numbers_in v.path) (pieces (v.records.size / v.path.root_size) v.path.root_size (drop n bytes))) none
    ∙ ap (λ n. flat_map (numbers_in v.path) (pieces (n / v.path.root_size) v.path.root_size bytes)) (sym size)

-- A resolved path has few values.
pub resolved_few : ResolvedIsFew
resolved_few path t r h = subst (λ n. value_count r.dims ≤ n) (sym h.root_size) (values_are_few path t r h)
