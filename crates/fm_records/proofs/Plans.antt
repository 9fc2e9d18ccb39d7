-- What the parts of a query have, that adding an item and testing a condition ask for.
use Rattle.std.proofs.Common.{◌≡◌, ℕ, zero, suc, ◌+◌, ◌*◌, ◌<◌, ◌≤◌, List, [], ◌∷◌, length, map, refl, sym, ap, subst, arith}
use Rattle.std.{proofs.lemmas.List.{length-append, length-map}, specs.List.{AllByRecursion, flat_map, range_with_len}}
use Rattle.fm_base_lists.proofs.Each.{all_weaker}
use Rattle.fm_path_meaning.specs.declared.dim.Dim.{Dim}
use Rattle.fm_segment.specs.Region.{Region}
use Rattle.fm_records_query.specs.{Plan.{Plan, value_count, AsksOf, IsPlan}, declared.{condition.Condition.{Condition}, item.{Asked.{Asked}, Item.{Item}}}}
use Rattle.fm_records_query.specs.declared.item.Asked.TheVariants as asked
use Rattle.fm_records.specs.{Few.{how_many}, Adds.{IsItemReadable, IsReadable, IsTestable}, Reads.{LiesIn}, Values.{index_lists}}

-- ---- how many lists of indices there are

-- one step's index before each list
led_many : (iss : List (List ℕ)) (a n : ℕ) → length (flat_map (λ i. map (λ is. i ∷ is) iss) (range_with_len a n)) ≡ n * length iss
led_many iss a zero = omega arith
led_many iss a (suc n) =
    let one : length (map (λ is. a ∷ is) iss) ≡ length iss = length-map iss (λ is. a ∷ is) in
    let both = length-append (map (λ is. a ∷ is) iss) (flat_map (λ i. map (λ is. i ∷ is) iss) (range_with_len (a + 1) n)) in
    let more : suc n * length iss ≡ length iss + n * length iss = grind arith in
    omega (arith, both, one, more, led_many iss (a + 1) n)

-- one list for each value
pub length-index_lists : (ds : List Dim) → length (index_lists ds) ≡ value_count ds
length-index_lists [] = refl
length-index_lists (d ∷ ds) = omega (arith, led_many (index_lists ds) 0 d.bound, ap (λ n. d.bound * n) (length-index_lists ds))

-- ---- items

abbrev pub IsItemFew : ℕ → Item → Type 0
IsItemFew size item = how_many item.asked ≤ size

asked_few : (size alignment : ℕ) (a : Asked) → 0 < size → AsksOf size alignment a → how_many a ≤ size
asked_few size alignment asked.Count some h = omega (arith, some)
asked_few size alignment (asked.Of f r) some h = omega (arith, length-index_lists r.dims, h.few)

-- no item adds more numbers in a record than the record has bytes
pub plan_items_few : (p : Plan) → IsPlan p → AllByRecursion (IsItemFew p.size) p.items
plan_items_few p h = all_weaker _ (IsItemFew p.size) (λ i f. asked_few p.size p.alignment i.asked h.sized f) p.items h.items

asked_readable : (s : Region) (place size alignment : ℕ) (a : Asked) → LiesIn s place size → AsksOf size alignment a → IsReadable s place a
asked_readable s place size alignment asked.Count lies h = tt
asked_readable s place size alignment (asked.Of f r) lies h =
    let from = lies.from in
    let within = lies.within in
    record {
      steady = h.stays.steady;
      lies = λ is admitted. record { from = omega (arith, from); within = omega (arith, h.stays.inside is admitted, h.size, within) };
    }

-- where a record stands in the segment, so do its items' values
pub plan_items_readable : {s : Region} {place : ℕ} {p : Plan} {items : List Item} → items ≡ p.items → IsPlan p → LiesIn s place p.size
    → AllByRecursion (IsItemReadable s place) items
plan_items_readable {s} {place} {p} {items} is h lies =
    subst (λ (xs : List Item). AllByRecursion (IsItemReadable s place) xs) (sym is)
    (all_weaker _ (IsItemReadable s place) (λ i f. asked_readable s place p.size p.alignment i.asked lies f) p.items h.items)

-- and the values that its conditions test
pub plan_conditions_testable : {s : Region} {place : ℕ} {p : Plan} {cs : List Condition} → cs ≡ p.conditions → IsPlan p → LiesIn s place p.size
    → AllByRecursion (IsTestable s place) cs
plan_conditions_testable {s} {place} {p} {cs} is h lies =
    let from = lies.from in
    let within = lies.within in
    subst (λ (xs : List Condition). AllByRecursion (IsTestable s place) xs) (sym is) (all_weaker _ (IsTestable s place) (λ x f. record {
      closed = f.closed;
      stays = f.through.stays;
      lies = record { from = from; within = omega (arith, f.through.size, within) };
    }) p.conditions h.conditions)
