-- The answers over two runs of records, joined, are the answer over both.
use Rattle.std.proofs.Common.{◌≡◌, ℕ, zero, suc, ◌+◌, ◌*◌, ◌/◌, ◌%◌, ◌<◌, ◌≤◌, List, [], ◌∷◌, ◌++◌, length, take, drop, map, refl, sym, ap, ◌∙◌, arith, length-append, length-drop}
use Rattle.std.{specs.{Prelude.{ℤ, ◌+ℤ◌}, List.{flat_map, list_all, AllZip}}, proofs.Math.{IntN.{+ℤ_assoc}, Nat.{mul-add-div_right}}}
use Rattle.std.proofs.lemmas.{Nat.{div-add-mod'}, Int.{ints}, List.{take-append-le, drop-append-le, Elements.{filter-append}}, Grind.{flat_map-append}}
use Rattle.fm_records_query.specs.{Plan.{Plan}, declared.{fold.Fold.{Fold}, item.{Asked.{Asked}, Item.{Item}}}}
use Rattle.fm_records_query.specs.declared.fold.Fold.TheVariants as fold
use Rattle.fm_records_query.specs.declared.item.Asked.TheVariants as asked
use Rattle.fm_records.specs.{declared.found.Found.TheVariants.{Count, Sum, Least, Greatest}, Records.{pieces, records}, Values.{numbers_in}}
use Rattle.fm_records.specs.{Answers.{holds, chosen, sum_of, folded, found_in, item_found, found_over, answer}, Joined.{both, joined}}
use Rattle.fm_records.{specs.Texts.{IsFolded, IsFoundOf, IsItemFound, IsAnswerOf}, proofs.Ends.{least_of-append, greatest_of-append}}

-- the pieces of two runs, the first of which is cut without a rest
pub pieces-append : (j k size : ℕ) (a b : List ℕ) → length a ≡ j * size → pieces (j + k) size (a ++ b) ≡ pieces j size a ++ pieces k size b
pieces-append zero k size [] b e = let none : 0 + k ≡ k = omega arith in ap (λ n. pieces n size b) none
pieces-append zero k size (x ∷ a) b e = absurd (omega arith)
pieces-append (suc j) k size a b e =
    let more : suc j + k ≡ suc (j + k) = omega arith in
    let within : size ≤ length a = grind arith in
    let rest : length (drop size a) ≡ j * size = grind (arith, length-drop) in
    ap (λ n. pieces n size (a ++ b)) more
    ∙ ap (λ x. x ∷ pieces (j + k) size (drop size (a ++ b))) (take-append-le size a b within)
    ∙ ap (λ bytes. take size a ∷ pieces (j + k) size bytes) (drop-append-le size a b within)
    ∙ ap (λ xs. take size a ∷ xs) (pieces-append j k size (drop size a) b rest)

pub records-append : (size : ℕ) (a b : List ℕ) → 0 < size → length a % size ≡ 0 → records size (a ++ b) ≡ records size a ++ records size b
records-append size a b some whole =
    let j = length a / size in
    let is : length a ≡ j * size = sym (div-add-mod' (length a) size) ∙ omega (arith, whole) in
    let count : length (a ++ b) / size ≡ j + length b / size =
    ap (λ n. n / size) (length-append a b ∙ ap (λ n. n + length b) is) ∙ mul-add-div_right some j (length b) in
    ap (λ n. pieces n size (a ++ b)) count ∙ pieces-append j (length b / size) size a b is

pub sum_of-append : (xs ys : List ℤ) → sum_of (xs ++ ys) ≡ sum_of xs +ℤ sum_of ys
sum_of-append [] ys = omega (arith, ints)
sum_of-append (x ∷ xs) ys = ap (λ n. x +ℤ n) (sum_of-append xs ys) ∙ sym (+ℤ_assoc x (sum_of xs) (sum_of ys))

pub folded-append : (f : Fold) (xs ys : List ℤ) → both (folded f xs) (folded f ys) ≡ folded f (xs ++ ys)
folded-append fold.Sum xs ys = ap Sum (sym (sum_of-append xs ys))
folded-append fold.Least xs ys = ap Least (sym (least_of-append xs ys))
folded-append fold.Greatest xs ys = ap Greatest (sym (greatest_of-append xs ys))
folded-append fold.All xs ys = refl

pub found_in-append : (rs ss : List (List ℕ)) (a : Asked) → both (found_in rs a) (found_in ss a) ≡ found_in (rs ++ ss) a
found_in-append rs ss asked.Count = ap Count (sym (length-append rs ss))
found_in-append rs ss (asked.Of f r) =
    folded-append f (flat_map (numbers_in r) rs) (flat_map (numbers_in r) ss) ∙ ap (folded f) (sym (flat_map-append (numbers_in r) rs ss))

-- item by item
pub items-append : (rs ss : List (List ℕ)) (items : List Item)
    → joined (map (item_found rs) items) (map (item_found ss) items) ≡ map (item_found (rs ++ ss)) items
items-append rs ss [] = refl
items-append rs ss (item ∷ items) =
    ap (λ f. f ∷ joined (map (item_found rs) items) (map (item_found ss) items)) (found_in-append rs ss item.asked)
    ∙ ap (λ fs. item_found (rs ++ ss) item ∷ fs) (items-append rs ss items)

pub found_over-append : (p : Plan) (rs ss : List (List ℕ)) → joined (found_over p rs) (found_over p ss) ≡ found_over p (rs ++ ss)
found_over-append p rs ss =
    items-append (chosen p.conditions rs) (chosen p.conditions ss) p.items
    ∙ ap (λ all. map (item_found all) p.items) (sym (filter-append (λ bytes. list_all (holds bytes) p.conditions) rs ss))

pub answer-append : (p : Plan) (a b : List ℕ) → 0 < p.size → length a % p.size ≡ 0 → joined (answer p a) (answer p b) ≡ answer p (a ++ b)
answer-append p a b some whole =
    found_over-append p (records p.size a) (records p.size b) ∙ ap (found_over p) (sym (records-append p.size a b some whole))

-- ---- what is found is of the kind that is asked for

folded_is : (f : Fold) (xs : List ℤ) → IsFolded f (folded f xs)
folded_is fold.Sum xs = tt
folded_is f xs = tt

found_is : (rs : List (List ℕ)) (a : Asked) → IsFoundOf a (found_in rs a)
found_is rs asked.Count = tt
found_is rs (asked.Of f r) = folded_is f (flat_map (numbers_in r) rs)

items_are : (rs : List (List ℕ)) (items : List Item) → AllZip IsItemFound items (map (item_found rs) items)
items_are rs [] = tt
items_are rs (item ∷ items) = (found_is rs item.asked, items_are rs items)

pub found_over_is : (p : Plan) (rs : List (List ℕ)) → IsAnswerOf p (found_over p rs)
found_over_is p rs = items_are (chosen p.conditions rs) p.items
