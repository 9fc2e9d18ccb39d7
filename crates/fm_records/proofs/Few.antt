-- How far the counts and sums of an answer can come.
use Rattle.std.proofs.Common.{◌≡◌, ℕ, suc, ◌+◌, ◌*◌, ◌/◌, ◌%◌, ◌^◌, ◌≤◌, ◌-◌, Bool, true, false, Result, Ok, List, [], ◌∷◌, ◌++◌, length, map, refl, sym, ap, ◌∙◌, subst, arith}
use Rattle.std.{specs.{Prelude.{◌==◌, not, ℤ, pos, negsuc, ◌+ℤ◌, FitsSigned}, Int.{w128}, List.{AllByRecursion, AllZip}}, proofs.lemmas.Int.{ints}}
use Rattle.std.proofs.{lemmas.List.{length-map}, Math.Nat.{div-mul-le_self}}
use Rattle.fm_base.specs.{declared.{caller.Caller.{Caller}, arena_id.ArenaId.{ArenaId}, refusal.Refusal.{Refusal}}, Calls.{Entry}}
use Rattle.fm_base_bytes.{specs.Signed.{FitsBytes}, proofs.Signed.{FitsBytes-signed_of}}
use Rattle.fm_lanes.specs.{Coding.{decoded}, Value.{number_of_value}, declared.{value.Value.TheVariants.{Boolean}, value_kind.ValueKind.{ValueKind}}}
use Rattle.fm_lanes.specs.declared.value_kind.ValueKind.TheVariants as kind
use Rattle.fm_path.specs.{Wide.{wide_dims}, declared.value_spec.ValueSpec.{ValueSpec}}
use Rattle.fm_path_meaning.specs.{declared.dim.Dim.{Dim}, Walk.{offset_at}}
use Rattle.fm_records_query.specs.{Plan.{Plan, IsPlan}, declared.{fold.Fold.{Fold}, item.{Asked.{Asked}, Item.{Item}}}}
use Rattle.fm_records_query.specs.declared.fold.Fold.TheVariants as fold
use Rattle.fm_records_query.specs.declared.item.Asked.TheVariants as asked
use Rattle.fm_records.specs.declared.found.Found.{Found, TheVariants.{Count, Sum, Least, Greatest, Listed}}
use Rattle.fm_records.specs.Answers.{sum_of, folded, found_in, item_found, found_over}
use Rattle.fm_records.specs.Few.{IsSumBy, IsFoundBy, IsFew, AreFew, AnswersAreFew, FewCanJoin, HasRoom, HaveRoom, IsOpen, how_many}
use Rattle.fm_records.specs.{Joined.{CanJoinFound, CanJoin, both, joined}, Adds.{AddsNumbers, all_added, with_number}}
use Rattle.fm_records.specs.Reads.{value_places, InOrder, all_done, one_more, comes_short, no_turn, next_turn, short_turn, TakesNumbers, TakesPath, FindsAsked, FindsItems, FindsRecord, ReadsRecord, chosen, passed_over, untested, record_places}
use Rattle.fm_records.specs.{Words.{Seen, kept_all, kept_last, number_by}, Texts.{IsFolded, IsFoundOf, IsItemFound}, Values.{index_lists}}
use Rattle.fm_records.proofs.{Behind.{length-record_places}, Ordered.{all_added-append}, Plans.{IsItemFew, plan_items_few}}

-- ---- sums

pub no_sum : IsSumBy 0 (pos 0)
no_sum = record { low = omega (arith, ints); high = omega (arith, ints) }

pub sum_more : (m n : ℕ) (x y : ℤ) → IsSumBy m x → IsSumBy n y → IsSumBy (m + n) (x +ℤ y)
sum_more m n x y h k = record {
  low = (let a = h.low in let b = k.low in omega (arith, ints));
  high = (let a = h.high in let b = k.high in omega (arith, ints));
}

sum_less : (m n : ℕ) (x : ℤ) → m ≤ n → IsSumBy m x → IsSumBy n x
sum_less m n x less h = record {
  low = (let a = h.low in omega (arith, ints));
  high = (let a = h.high in omega (arith, ints));
}

-- a signed number of at most 64 bits
fits_one : (z : ℤ) → FitsBytes 8 z → IsSumBy 1 z
fits_one (pos n) h = record { low = omega (arith, ints); high = omega (arith, ints) }
fits_one (negsuc n) h = record { low = omega (arith, ints); high = omega (arith, ints) }

fits_more : (width : ℕ) (z : ℤ) → 2 ^ (8 * width - 1) ≤ 2 ^ 63 → FitsBytes width z → FitsBytes 8 z
fits_more width (pos n) less h = omega arith
fits_more width (negsuc n) less h = omega arith

one_truth : (b : Bool) → IsSumBy 1 (number_of_value (Boolean b))
one_truth true = fits_one (pos 1) (omega arith)
one_truth false = fits_one (pos 0) (omega arith)

one_decoded : (k : ValueKind) (n : ℕ) → IsSumBy 1 (number_of_value (decoded k n))
one_decoded kind.Byte n = fits_one _ (fits_more 1 _ (omega arith) (FitsBytes-signed_of 1 (n % 2 ^ 8) (omega arith) (omega arith)))
one_decoded kind.Boolean n = one_truth (not (n % 2 ^ 8 == 0))
one_decoded kind.Char n = fits_one (pos (n % 2 ^ 16)) (omega arith)
one_decoded kind.Short n = fits_one _ (fits_more 2 _ (omega arith) (FitsBytes-signed_of 2 (n % 2 ^ 16) (omega arith) (omega arith)))
one_decoded kind.Int n = fits_one _ (fits_more 4 _ (omega arith) (FitsBytes-signed_of 4 (n % 2 ^ 32) (omega arith) (omega arith)))
one_decoded kind.Long n = fits_one _ (FitsBytes-signed_of 8 (n % 2 ^ 64) (omega arith) (omega arith))

-- ---- what one record comes to

-- a number that was read has at most 64 bits
pub one_number : (seen : List Seen) (spec : ValueSpec) (place : ℕ) → IsSumBy 1 (number_by seen spec place)
one_number seen spec place = one_decoded spec.kind _

-- one number more
number_few : (n : ℕ) (f : Found) (z : ℤ) → IsSumBy 1 z → IsFoundBy n f → IsFoundBy (n + 1) (with_number f z)
number_few n (Count k) z one h = omega arith
number_few n (Sum x) z one h = sum_more n 1 x z h one
number_few n f z one h = tt

module _ (keeps : List Seen → Seen → List Seen) (spec : ValueSpec) where
  numbers_few : (k l : List Seen) (places : List ℕ) (result : Result (Unit {0}) Refusal) (own : List Seen) (ns : List ℤ) (n : ℕ) (f : Found)
      → TakesNumbers keeps spec k places result own ns l → result ≡ Ok tt → IsFoundBy n f → IsFoundBy (n + length places) (all_added with_number f ns)
  numbers_few k l places result own ns n f no_turn e h = let none : n ≡ n + 0 = omega arith in subst (λ (k : ℕ). IsFoundBy k f) none h
  numbers_few k l places result own ns n f (next_turn {x = place} {xs = left} j first rest given more r others) e h =
      let sum : n + 1 + length left ≡ n + suc (length left) = omega arith in
      let z = r.0 in
      let one = subst (IsSumBy 1) (sym r.1.number) (one_number (k ++ first) spec place) in
      subst (λ (zs : List ℤ). IsFoundBy (n + suc (length left)) (all_added with_number f (zs ++ more))) (sym r.2)
      (subst (λ (i : ℕ). IsFoundBy i (all_added with_number (with_number f z) more)) sum
      (numbers_few j l left result rest more (n + 1) (with_number f z) others e (number_few n f z one h)))
  numbers_few k l places result own ns n f (short_turn first given apart r) e h = absurd (apart e)

pub sums : (x : ℤ) (ns : List ℤ) → all_added with_number (Sum x) ns ≡ Sum (x +ℤ sum_of ns)
sums x [] = let e : x ≡ x +ℤ pos 0 = omega (arith, ints) in ap Sum e
sums x (n ∷ ns) = let e : x +ℤ n +ℤ sum_of ns ≡ x +ℤ (n +ℤ sum_of ns) = omega (arith, ints) in sums (x +ℤ n) ns ∙ ap Sum e

-- what they come to by themselves
numbers_sum : (keeps : List Seen → Seen → List Seen) (spec : ValueSpec) (k l : List Seen) (places : List ℕ) (own : List Seen) (ns : List ℤ)
    → TakesNumbers keeps spec k places (Ok tt) own ns l → IsSumBy (length places) (sum_of ns)
numbers_sum keeps spec k l places own ns h =
    let by : IsSumBy (0 + length places) (pos 0 +ℤ sum_of ns) =
    subst (IsFoundBy (0 + length places)) (sums (pos 0) ns) (numbers_few keeps spec k l places (Ok tt) own ns 0 (Sum (pos 0)) h refl no_sum) in
    record { low = (let a = by.low in omega (arith, ints)); high = (let a = by.high in omega (arith, ints)) }

-- so there is room for those that are left
pub adds_room : {keeps : List Seen → Seen → List Seen} {spec : ValueSpec} {k l : List Seen} {places : List ℕ} {f g : Found} {own : List Seen} (more : ℕ)
    → AddsNumbers keeps spec k places f g l (Ok tt) own → HasRoom f (length places + more) → HasRoom g more
adds_room {keeps} {spec} {k} {l} {places} {f} {g} {own} more a room = (
  room.0 + length places,
  omega (arith, room.1),
  subst (IsFoundBy (room.0 + length places)) (sym a.added)
      (numbers_few keeps spec k l places (Ok tt) own a.given room.0 f a.reads refl room.2),
)

-- room for fewer
pub room_less : (f : Found) (n m : ℕ) → m ≤ n → HasRoom f n → HasRoom f m
room_less f n m less h = (h.0, omega (arith, h.1), h.2)

-- a find of the kind that is asked for, from so few numbers
abbrev IsFewOf : ℕ → Asked → Found → Type 0
IsFewOf n a found = IsFoundOf a found × IsFoundBy n found

folded_few : (f : Fold) (r : _) (n : ℕ) (ns : List ℤ) → IsSumBy n (sum_of ns) → IsFewOf n (asked.Of f r) (folded f ns)
folded_few fold.Sum r n ns h = (tt, h)
folded_few f r n ns h = (tt, tt)

-- what an item finds in a record, and that it finds just this
record FindsFew (n : ℕ) (a : Asked) (fs : List Found) : Type 0 where
  found : Found
  is : fs ≡ found ∷ []
  few : IsFewOf n a found

path_sum : (ds : List Dim) (spec : ValueSpec) (k l : List Seen) (places : List ℕ) (own : List Seen) (ns : List ℤ) → TakesPath ds spec k places (Ok tt) own ns l
    → IsSumBy (length places) (sum_of ns)
path_sum [] spec k l places own ns h = numbers_sum kept_all spec k l places own ns h
path_sum (d ∷ ds) spec k l places own ns h = numbers_sum kept_last spec [] h.0 places own ns h.1

item_few : (place size : ℕ) (k l : List Seen) (a : Asked) (own : List Seen) (fs : List Found) → how_many a ≤ size → FindsAsked place k a (Ok tt) own fs l
    → FindsFew size a fs
item_few place size k l asked.Count own fs few h = record { found = Count 1; is = h.2; few = (tt, few) }
item_few place size k l (asked.Of f r) own fs few h =
    let places = value_places place r.offset r.dims in
    let by = path_sum (wide_dims r.dims) r.value k l places own h.0 h.1 in
    let long : length (value_places place r.offset r.dims) ≤ size =
    omega (arith, few, length-map (index_lists r.dims) (λ is. place + offset_at r.offset r.dims is)) in
    record { found = folded f h.0; is = h.2; few = folded_few f r size h.0 (sum_less (length places) size (sum_of h.0) long by) }

-- the same of an item
of_item : (n : ℕ) (item : Item) (found : Found) → IsFewOf n item.asked found → IsFew n item found
of_item n item found h = record { kind = h.0; by = h.1 }

items_few : (place size : ℕ) (k l : List Seen) (items : List Item) (result : Result (Unit {0}) Refusal) (own : List Seen) (fs : List Found)
    → AllByRecursion (IsItemFew size) items → FindsItems place k items result own fs l → result ≡ Ok tt → AllZip (IsFew size) items fs
items_few place size k l items result own fs few no_turn e = tt
items_few place size k l items result own fs few (next_turn {x = item} {xs = left} j first rest given more h others) e =
    let one = item_few place size k j item.asked first given few.0 h in
    subst (λ (gs : List Found). AllZip (IsFew size) (item ∷ left) (gs ++ more)) (sym one.is)
    (of_item size item one.found one.few, items_few place size j l left result rest more few.1 others e)
items_few place size k l items result own fs few (short_turn first given apart h) e = absurd (apart e)

-- ---- two finds of one item

fits_128 : (n : ℕ) (z : ℤ) → n ≤ 2 ^ 62 → IsSumBy n z → FitsSigned w128 z
fits_128 n (pos k) less h = let a = h.high in omega (arith, ints)
fits_128 n (negsuc k) less h = let a = h.low in omega (arith, ints)

-- they can be joined, and then come from as many together
record AreBoth (n : ℕ) (a : Asked) (f g : Found) : Type 0 where
  can : n ≤ 2 ^ 62 → CanJoinFound f g
  few : IsFewOf n a (both f g)

folds_few : (m n : ℕ) (o : Fold) (r : _) (f g : Found) → IsFolded o f → IsFolded o g → IsFoundBy m f → IsFoundBy n g → AreBoth (m + n) (asked.Of o r) f g
folds_few m n fold.Sum r (Sum x) (Sum y) i j h k =
    let sum = sum_more m n x y h k in
    record { can = λ less. fits_128 (m + n) (x +ℤ y) less sum; few = (tt, sum) }
folds_few m n fold.Least r (Least x) (Least y) i j h k = record { can = λ less. tt; few = (tt, tt) }
folds_few m n fold.Greatest r (Greatest x) (Greatest y) i j h k = record { can = λ less. tt; few = (tt, tt) }
folds_few m n fold.All r (Listed x) (Listed y) i j h k = record { can = λ less. tt; few = (tt, tt) }
folds_few m n fold.Sum r (Sum x) g i j h k = absurd j
folds_few m n fold.Least r (Least x) g i j h k = absurd j
folds_few m n fold.Greatest r (Greatest x) g i j h k = absurd j
folds_few m n fold.All r (Listed x) g i j h k = absurd j
folds_few m n o r f g i j h k = absurd i

two_few : (m n : ℕ) (a : Asked) (f g : Found) → IsFoundOf a f → IsFoundOf a g → IsFoundBy m f → IsFoundBy n g → AreBoth (m + n) a f g
two_few m n asked.Count (Count x) (Count y) i j h k = record { can = λ less. omega arith; few = (tt, omega arith) }
two_few m n asked.Count (Count x) g i j h k = absurd j
two_few m n asked.Count f g i j h k = absurd i
two_few m n (asked.Of o r) f g i j h k = folds_few m n o r f g i j h k

record AreAllBoth (n : ℕ) (items : List Item) (fs gs : List Found) : Type 0 where
  can : n ≤ 2 ^ 62 → CanJoin fs gs
  few : AllZip (IsFew n) items (joined fs gs)

all_few : (m n : ℕ) (items : List Item) (fs gs : List Found) → AllZip (IsFew m) items fs → AllZip (IsFew n) items gs → AreAllBoth (m + n) items fs gs
all_few m n [] [] [] h k = record { can = λ less. tt; few = tt }
all_few m n [] [] (g ∷ gs) h k = absurd k
all_few m n [] (f ∷ fs) gs h k = absurd h
all_few m n (i ∷ is) [] gs h k = absurd h
all_few m n (i ∷ is) (f ∷ fs) [] h k = absurd k
all_few m n (i ∷ is) (f ∷ fs) (g ∷ gs) h k =
    let one = two_few m n i.asked f g h.0.kind k.0.kind h.0.by k.0.by in
    let rest = all_few m n is fs gs h.1 k.1 in
    record { can = λ less. (one.can less, rest.can less); few = (of_item (m + n) i (both f g) one.few, rest.few) }

-- what comes from few comes from no more than more
found_less : (m n : ℕ) (f : Found) → m ≤ n → IsFoundBy m f → IsFoundBy n f
found_less m n (Count k) less h = omega arith
found_less m n (Sum x) less h = sum_less m n x less h
found_less m n f less h = tt

few_less : (m n : ℕ) (items : List Item) (fs : List Found) → m ≤ n → AllZip (IsFew m) items fs → AllZip (IsFew n) items fs
few_less m n [] [] less h = tt
few_less m n (i ∷ is) (f ∷ fs) less h = (record { kind = h.0.kind; by = found_less m n f less h.0.by }, few_less m n is fs less h.1)
few_less m n is fs less h = absurd h

-- they are an answer of the query
pub few_answer : (n : ℕ) (items : List Item) (fs : List Found) → AllZip (IsFew n) items fs → AllZip IsItemFound items fs
few_answer n [] [] h = tt
few_answer n (i ∷ is) (f ∷ fs) h = (h.0.kind, few_answer n is fs h.1)
few_answer n is fs h = absurd h

-- ---- records

none_few : (a : Asked) → IsFewOf 0 a (found_in [] a)
none_few asked.Count = (tt, omega arith)
none_few (asked.Of f r) = folded_few f r 0 [] no_sum

pub nothing_few : (items : List Item) → AllZip (IsFew 0) items (map (item_found []) items)
nothing_few [] = tt
nothing_few (i ∷ is) = (of_item 0 i (found_in [] i.asked) (none_few i.asked), nothing_few is)

record_few : (p : Plan) (place m : ℕ) (result : Result (Unit {0}) Refusal) (own : List Seen) (seen : List (List Found)) (so_far : List Found) → IsPlan p
    → FindsRecord p place result own seen → result ≡ Ok tt → AreFew m p so_far → AreFew (m + p.size) p (all_added joined so_far seen)
record_few p place m result own seen so_far plan (chosen k l one rest fs t h) e few =
    (all_few m p.size p.items so_far fs few (items_few place p.size k l p.items result rest fs (plan_items_few p plan) h e)).few
record_few p place m result own seen so_far plan (passed_over k one t) e few = few_less m (m + p.size) p.items so_far (omega arith) few
record_few p place m result own seen so_far plan (untested k one t) e few = absurd (cc)

pub records_few : (c : Caller) (id : ArenaId) (p : Plan) (places : List ℕ) (m : ℕ) (result : Result (Unit {0}) Refusal) (own : List Entry)
    (all : List (List Found)) (so_far : List Found) → IsPlan p → InOrder (Ok tt) (ReadsRecord c id p) places result own all → result ≡ Ok tt
    → AreFew m p so_far → AreFew (m + length places * p.size) p (all_added joined so_far all)
records_few c id p places m result own all so_far plan all_done e few = few_less m _ p.items so_far (omega arith) few
records_few c id p places m result own all so_far plan (one_more {x = place} {xs = left} first rest seen more r others) e few =
    let bytes : suc (length left) * p.size ≡ p.size + length left * p.size = grind arith in
    let sum : m + p.size + length left * p.size ≡ m + suc (length left) * p.size = omega (arith, bytes) in
    subst (λ (fs : List Found). AreFew (m + suc (length left) * p.size) p fs) (sym (all_added-append joined so_far seen more))
    (subst (λ (n : ℕ). AreFew n p (all_added joined (all_added joined so_far seen) more)) sum
    (records_few c id p left (m + p.size) result rest more (all_added joined so_far seen) plan others e
    (record_few p place m (Ok tt) r.seen seen so_far plan r.finds refl few)))
records_few c id p places m result own all so_far plan (comes_short first seen apart r) e few = absurd (apart e)

pub answers_few : AnswersAreFew
answers_few c p s a own plan does =
    let count = s.size / p.size in
    let places = record_places count p.size s.first in
    let few = records_few c s.arena p places 0 (Ok tt) own does.records.given (found_over p []) plan does.records.reads refl (nothing_few p.items) in
    let long : 0 + length (record_places (s.size / p.size) p.size s.first) * p.size ≤ s.size =
    subst (λ (n : ℕ). 0 + n * p.size ≤ s.size) (sym (length-record_places count p.size s.first)) (omega (arith, div-mul-le_self s.size p.size)) in
    subst (AreFew s.size p) (sym does.records.added) (few_less (0 + length places * p.size) s.size p.items _ long few)

pub few_join : FewCanJoin
few_join p m n a b h k less =
    let all = all_few m n p.items a b h k in
    record { can = all.can less; few = all.few; answer = few_answer (m + n) p.items (joined a b) all.few }

-- ---- room for a record

items_open : (n size : ℕ) (items : List Item) (fs : List Found) → n + size ≤ 2 ^ 62 → AllByRecursion (IsItemFew size) items → AllZip (IsFew n) items fs
    → AllZip IsOpen items fs
items_open n size [] [] less few h = tt
items_open n size (i ∷ is) (f ∷ fs) less few h = (
  record { kind = h.0.kind; room = (n, omega (arith, few.0, less), h.0.by) },
  items_open n size is fs less few.1 h.1,
)
items_open n size is fs less few h = absurd h

-- where a record has room, its items have
pub plan_items_open : {p : Plan} {items : List Item} (fs : List Found) → items ≡ p.items → IsPlan p → HaveRoom p fs p.size → AllZip IsOpen items fs
plan_items_open {p} {items} fs is plan h =
    subst (λ (xs : List Item). AllZip IsOpen xs fs) (sym is) (items_open h.0 p.size p.items fs h.1 (plan_items_few p plan) h.2)
