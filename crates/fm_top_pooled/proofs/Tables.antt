-- A table beside records, made for their values, and what is answered of these.
use Rattle.std.proofs.Common.{◌≡◌, ℕ, ◌*◌, ◌%◌, ◌<◌, ◌≤◌, ◌^◌, List, length, pow_mono, ap, sym, ◌∙◌, subst, arith}
use Rattle.std.{specs.Int.{IsPowerOfTwo}, proofs.{Math.Nat.{zero-mod}}}
use Rattle.fm_path.specs.Resolution.{Resolution}
use Rattle.fm_rule_facts.specs.Views.{View, limit_of}
use Rattle.fm_rule.specs.{declared.pool.Pool.{Pool}, Finishing.{FinishedView}}
use Rattle.fm_segment.specs.Region.{Region}
use Rattle.fm_words.specs.declared.shape.Shape.{Shape}
use Rattle.fm_group_lists.specs.Groups.{AreGroups, Group}
use Rattle.fm_group.specs.{Values.{AreValued, Valued, all_numbers, count_of, valued}}
use Rattle.fm_top_pooled.specs.{Asking.{KeepsHistory}, Grouped.{HasTableFor, HasValues, IsTableFor, ReadsValues, ShowsValues, values_in}, Stocked.{IsStock, bytes_in_pool}}
use Rattle.fm_top_pooled.proofs.{Groupings.{shows_values}, Shapes.{least_power}, Shows.{length-pooled}}

-- ---- a table's size

some_power : (n : ℕ) → IsPowerOfTwo n → 0 < n
some_power n (k, is) =
    let one : 2 ^ 0 ≤ 2 ^ k = pow_mono {i = 0} {j = k} (omega arith) in
    omega (arith, is, one)

pub some_table : {values size : ℕ} → IsTableFor values size → 0 < size
some_table t =
    let some = some_power t.places t.least.0 in
    let is = t.size_is in
    omega (arith, some, is)

-- One for 2^20 values has 2^21 places at most.
pub short_table : {values size : ℕ} → IsTableFor values size → values ≤ 2 ^ 20 → size ≤ 2 ^ 25
short_table {values = values} t few =
    let less = least_power t.places (2 * values) 21 t.least.0 t.least.2 (omega (arith, few)) in
    let is = t.size_is in
    omega (arith, less, is)

-- There is no smaller one.
pub least_table : {values size other : ℕ} → IsTableFor values size → IsTableFor values other → size ≤ other
least_table {values = values} t u =
    let power = u.least.0 in
    let few = u.least.1 in
    let less : t.places ≤ 2 ^ power.0 =
    least_power t.places (2 * values) power.0 t.least.0 t.least.2 (subst (λ (n : ℕ). 2 * values ≤ n) power.1 few) in
    let is = power.1 in
    let first = t.size_is in
    let second = u.size_is in
    omega (arith, less, is, first, second)

-- So it fits where one does.
pub table_fits : {values n size beside : ℕ} → IsTableFor n size → n ≡ values → HasTableFor values beside → size ≤ beside
table_fits {size = size} t is has =
    let less = least_table (subst (λ (m : ℕ). IsTableFor m size) is t) has.table in
    let fits = has.fits in
    omega (arith, less, fits)

-- ---- the values of records in a pool

module _ {beside : ℕ} {pool : Pool} {p : View} {s : Region} (h : IsStock beside pool p s) (path : Resolution) (bytes : List ℕ) (are : bytes_in_pool p s ≡ bytes) where
  counted : s.size ≡ length bytes
  counted = sym (length-pooled p s) ∙ ap (λ (bs : List ℕ). length bs) are

  pub are_valued : HasValues path → length bytes % path.root_size ≡ 0 → AreValued (valued path s)
  are_valued has even =
      let start : s.first ≡ 0 = ap (λ (r : Region). r.first) h.stocked.start in
      let room = subst (λ (z : Shape). s.size ≤ limit_of z) (sym h.lone.outside.of.1) h.room in
      let limit = h.lone.sound.limit in
      record {
        sized = has.sized;
        multiple = has.multiple;
        whole = ap (λ (n : ℕ). n % path.root_size) counted ∙ even;
        aligned = ap (λ (n : ℕ). n % path.root_alignment) start ∙ zero-mod path.root_alignment;
        stays = has.stays;
        few = has.few;
        ends = omega (arith, start, room, limit);
      }

  pub many_are : {v : Valued} → v ≡ valued path s → count_of v ≡ values_in path (length bytes)
  many_are is = ap count_of is ∙ ap (values_in path) counted

-- ---- what is answered of them

module _ {path : Resolution} {s : Region} (v : Valued) (p : View) (bytes : List ℕ) (is : v ≡ valued path s) (are : bytes_in_pool p s ≡ bytes) where
  pub groups_of : {gs : List Group} → AreGroups (all_numbers v.path (bytes_in_pool p v.records)) gs → AreGroups (all_numbers path bytes) gs
  groups_of {gs} h =
      subst (λ (bs : List ℕ). AreGroups (all_numbers path bs) gs) are
      (subst (λ (u : Valued). AreGroups (all_numbers u.path (bytes_in_pool p u.records)) gs) is h)

  pub shows_of : {pool : Pool} {q : View} {f : FinishedView} → ReadsValues pool p q v → KeepsHistory q f → ShowsValues f path bytes
  shows_of {pool} {q} reads kept = shows_values {v = valued path s} bytes (subst (ReadsValues pool p q) is reads) kept are
