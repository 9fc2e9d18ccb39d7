-- The numbers that a query lists, read and counted some records at a time.
use Rattle.std.proofs.Common.{◌≡◌, ℕ, suc, ◌+◌, ◌-◌, ◌*◌, ◌/◌, ◌%◌, ◌^◌, ◌≤◌, Result, None, List, [], ◌∷◌, ◌++◌, length, map, refl, sym, ap, ◌∙◌, subst, append_assoc, length-append, arith, Ok, Err}
use Rattle.std.{specs.{Prelude.{ℤ}, List.{AllByRecursion}}, proofs.lemmas.List.{append-nil, length-map}}
use Rattle.std.proofs.Math.Nat.{mul-div_cancel, mul-mod_left, div-mul-le_self, mul-le-mul_right}
use Rattle.fm_base.specs.declared.{caller.Caller.{Caller}, arena_id.ArenaId.{ArenaId}, refusal.Refusal.{Refusal}}
use Rattle.fm_base.specs.{declared.refusal.Refusal.TheVariants.{Ragged, WrongThread, Closed, Memory}, Calls.{Entry}, View.{Did, Makes, View}}
use Rattle.fm_base.proofs.{Making.{Makes-none, Makes-then}, Outcomes.{Makes-lasts}}
use Rattle.fm_path.specs.{Wide.{wide_dims}, declared.value_spec.ValueSpec.{ValueSpec}}
use Rattle.fm_path_meaning.specs.{declared.dim.Dim.{Dim}, Walk.{offset_at}}
use Rattle.fm_segment.{specs.Region.{Region}, proofs.Access.{known_still}}
use Rattle.fm_records_query.specs.{Plan.{IsPlan, Plan}, declared.{condition.Condition.{Condition}, item.{Asked.{Asked}, Item.{Item}}}}
use Rattle.fm_records_query.specs.declared.fold.Fold.TheVariants as fold
use Rattle.fm_records_query.specs.declared.item.Asked.TheVariants as asked
use Rattle.fm_records.specs.{declared.found.Found.{Found, TheVariants.{Listed}}, Answers.{chosen as chosen_of, found_in, found_over, item_found}}
use Rattle.fm_records.specs.{Adds.{AddsRecords, all_added}, Few.{how_many}, Joined.{joined}, Learnt.{CanQuery, Queried}, Query.{DoesQuery}}
use Rattle.fm_records.specs.Reads.{all_done, AreReads, chosen, comes_short, FindsAsked, FindsItems, FindsRecord, InOrder, next_turn, no_turn, one_more, passed_over, ReadsRecord, record_places, short_turn, TakesNumbers, TakesPath, untested, value_places}
use Rattle.fm_records.{specs.{Words.{Seen, kept_all, kept_last}, Values.{index_lists}}, proofs.Behind.{length-record_places, places_split}}
use Rattle.fm_records.proofs.{Ordered.{adds_on, all_added-append}, Plans.{IsItemFew, plan_items_few}}
use Rattle.fm_records.proofs.Visiting.{AreReads-append, AreReads-none, StopsReading-after}
use Rattle.fm_workers.specs.{Counts.{AreCounts, AreTallied, CountsToo, HasRoomFor, IsTally, ListsBytes, listed}, Tallies.{CanCount, DoesCount}}
use Rattle.fm_workers.proofs.Asked.{IsWithin, reads_wider, stops_wider}
use Rattle.fm_workers_shares.{specs.Shares.{piece}, proofs.{Serving.{aligned_at}, Numbers.{run_ends, run_fits}}}

-- ---- one record

-- only these numbers are listed, no more of them than so many
record Lists (most : ℕ) (fs : List Found) : Type 0 where
  numbers : List ℤ
  is : fs ≡ Listed numbers ∷ []
  few : length numbers ≤ most

as_many : (keeps : List Seen → Seen → List Seen) (spec : ValueSpec) (k l : List Seen) (places : List ℕ) (result : Result (Unit {0}) Refusal) (own : List Seen)
    (ns : List ℤ) → TakesNumbers keeps spec k places result own ns l → result ≡ Ok tt → length ns ≡ length places
as_many keeps spec k l places result own ns no_turn e = refl
as_many keeps spec k l places result own ns (next_turn {xs = left} j first rest given more h others) e =
    ap (λ gs. length (gs ++ more)) h.2 ∙ ap suc (as_many keeps spec j l left result rest more others e)
as_many keeps spec k l places result own ns (short_turn first given apart h) e = absurd (apart e)

as_many_of : (ds : List Dim) (spec : ValueSpec) (k l : List Seen) (places : List ℕ) (own : List Seen) (ns : List ℤ)
    → TakesPath ds spec k places (Ok tt) own ns l → length ns ≡ length places
as_many_of [] spec k l places own ns t = as_many kept_all spec k l places (Ok tt) own ns t refl
as_many_of (d ∷ ds) spec k l places own ns t = as_many kept_last spec [] t.0 places (Ok tt) own ns t.1 refl

asked_lists : (place most : ℕ) (k l : List Seen) (a : Asked) (own : List Seen) (fs : List Found) → ListsBytes a → how_many a ≤ most
    → FindsAsked place k a (Ok tt) own fs l → Lists most fs
asked_lists place most k l (asked.Of fold.All r) own fs lists few h =
    let at : List ℕ = value_places place r.offset r.dims in
    let long : length h.0 ≡ length at = as_many_of (wide_dims r.dims) r.value k l at own h.0 h.1 in
    let many : length at ≡ length (index_lists r.dims) = length-map (index_lists r.dims) (λ is. place + offset_at r.offset r.dims is) in
    record { numbers = h.0; is = h.2; few = omega (arith, few, long, many) }
asked_lists place most k l a own fs lists few h = absurd lists

items_list : (place most : ℕ) (k l : List Seen) (items : List Item) (result : Result (Unit {0}) Refusal) (own : List Seen) (fs : List Found)
    → AreTallied items → AllByRecursion (IsItemFew most) items → FindsItems place k items result own fs l → result ≡ Ok tt → Lists most fs
items_list place most k l (item ∷ []) result own fs tally few (next_turn j one rest given more h no_turn) e =
    let all = asked_lists place most k j item.asked one given tally few.0 h in
    record { numbers = all.numbers; is = ap (λ gs. gs ++ []) all.is; few = all.few }
items_list place most k l (item ∷ []) result own fs tally few (short_turn one given apart h) e = absurd (apart e)
items_list place most k l items result own fs tally few h e = absurd tally

-- what records add to listed numbers, whichever these are
pub record AddsListed (most : ℕ) (all : List (List Found)) : Type 0 where
  pub numbers : List ℤ
  pub few : length numbers ≤ most
  pub adds : (xs : List ℤ) → all_added joined (Listed xs ∷ []) all ≡ Listed (xs ++ numbers) ∷ []

lists_none : (most : ℕ) → AddsListed most []
lists_none most = record { numbers = []; few = omega arith; adds = λ xs. ap (λ ns. Listed ns ∷ []) (sym (append-nil xs)) }

module _ (c : Caller) (id : ArenaId) (p : Plan) (plan : IsPlan p) (tally : IsTally p) where
  finds_add : (place : ℕ) (result : Result (Unit {0}) Refusal) (words : List Seen) (seen : List (List Found)) → FindsRecord p place result words seen
      → result ≡ Ok tt → AddsListed p.size seen
  finds_add place result words seen (chosen k l one rest fs t h) e =
      let all = items_list place p.size k l p.items result rest fs tally (plan_items_few p plan) h e in
      record { numbers = all.numbers; few = all.few; adds = λ xs. ap (λ gs. joined (Listed xs ∷ []) gs) all.is }
  finds_add place result words seen (passed_over k one t) e = lists_none p.size
  finds_add place result words seen (untested k one t) e = absurd (cc)

  record_adds : (place : ℕ) (result : Result (Unit {0}) Refusal) (own : List Entry) (seen : List (List Found)) → ReadsRecord c id p place result own seen
      → result ≡ Ok tt → AddsListed p.size seen
  record_adds place result own seen r e = finds_add place result r.seen seen r.finds e

  -- ---- records, one behind the other

  pub records_add : (places : List ℕ) (result : Result (Unit {0}) Refusal) (own : List Entry) (all : List (List Found))
      → InOrder (Ok tt) (ReadsRecord c id p) places result own all → result ≡ Ok tt → AddsListed (length places * p.size) all
  records_add places result own all all_done e = lists_none (0 * p.size)
  records_add places result own all (one_more {x = place} {xs = left} one rest seen more r others) e =
      let a = record_adds place (Ok tt) one seen r refl in
      let t = records_add left result rest more others e in
      let bytes : suc (length left) * p.size ≡ p.size + length left * p.size = grind arith in
      let long = length-append a.numbers t.numbers in
      let first = a.few in
      let later = t.few in
      record {
        numbers = a.numbers ++ t.numbers;
        few = omega (arith, bytes, long, first, later);
        adds = λ xs.
            all_added-append joined (Listed xs ∷ []) seen more ∙ ap (λ gs. all_added joined gs more) (a.adds xs) ∙ t.adds (xs ++ a.numbers)
            ∙ ap (λ ns. Listed ns ∷ []) (append_assoc xs a.numbers t.numbers);
      }
  records_add places result own all (comes_short one seen apart r) e = absurd (apart e)

-- ---- what was counted so far

asked_none : (a : Asked) → ListsBytes a → found_in [] a ≡ Listed []
asked_none (asked.Of fold.All r) h = refl
asked_none a h = absurd h

pub items_none : (items : List Item) (conditions : List Condition) → AreTallied items
    → map (item_found (chosen_of conditions [])) items ≡ Listed [] ∷ []
items_none (item ∷ []) conditions h = ap (λ (f : Found). f ∷ []) (asked_none item.asked h)
items_none items conditions h = absurd h

pub none_found : (p : Plan) → IsTally p → found_over p [] ≡ Listed [] ∷ []
none_found p h = items_none p.items p.conditions h

-- the numbers of the records before this one were read and counted
pub record CountedTo (old now : View) (p : Plan) (s : Region) (from : ℕ) (counts : List ℕ) : Type 0 where
  pub own : List Entry
  pub numbers : List ℤ
  pub records : AddsRecords old.caller s.arena p (record_places from p.size s.first) (Listed [] ∷ []) (Listed numbers ∷ []) (Ok tt) own
  pub reads : AreReads old.caller s own
  pub few : length numbers ≤ from * p.size
  pub are : AreCounts numbers counts
  pub makes : Makes old now own
  pub outside : now.inside ≡ None

pub counted_none : (old : View) (p : Plan) (s : Region) (counts : List ℕ) → AreCounts [] counts → old.inside ≡ None → CountedTo old old p s 0 counts
counted_none old p s counts are outside = record {
  own = [];
  numbers = [];
  records = record { given = []; reads = all_done; added = refl };
  reads = AreReads-none old.caller s;
  few = omega arith;
  are = are;
  makes = Makes-none old;
  outside = outside;
}

module _ {old now : View} {p : Plan} {s : Region} {from : ℕ} {counts : List ℕ} (plan : IsPlan p) (can : CanCount old p s)
    (h : CountedTo old now p s from counts) (to : ℕ) (order : from ≤ to) (within : to ≤ s.size / p.size) where
  fits : from * p.size + (to - from) * p.size ≤ s.size
  fits = run_fits from to p.size s.size order within

  lies : IsWithin (piece p s from to) s
  lies = record { arena = refl; from = omega arith; below = (let f = fits in omega (arith, f)) }

  pub can_query_run : CanQuery now p (piece p s from to)
  can_query_run =
      let known = known_still old now s (Makes-lasts old now h.own h.makes) can.query.known in
      let given = known.given in
      let f = fits in
      record {
        outside = h.outside;
        known = record { arena = known.arena; given = omega (arith, given, f) };
        aligned = aligned_at p s.first from plan can.query.aligned;
      }

  module _ {next : View} {a : List Found} (q : Queried now next p (piece p s from to) (Ok a)) where
    same : now.caller ≡ old.caller
    same = h.makes.same_caller

    does : DoesQuery old.caller p (piece p s from to) (Ok a) q.did.own
    does = subst (λ (c : Caller). DoesQuery c p (piece p s from to) (Ok a) q.did.own) same q.did.does

    run_read : AddsRecords old.caller s.arena p (record_places (to - from) p.size (s.first + from * p.size)) (Listed [] ∷ []) a (Ok tt) q.did.own
    run_read =
        let count : (to - from) * p.size / p.size ≡ to - from = mul-div_cancel (to - from) plan.sized in
        subst (λ gs. AddsRecords old.caller s.arena p (record_places (to - from) p.size (s.first + from * p.size)) gs a (Ok tt) q.did.own)
        (none_found p can.tally)
        (subst (λ k. AddsRecords old.caller s.arena p (record_places k p.size (s.first + from * p.size)) (found_over p []) a (Ok tt) q.did.own) count
        does.records)

    run_adds : AddsListed ((to - from) * p.size) run_read.given
    run_adds =
        subst (λ k. AddsListed (k * p.size) run_read.given) (length-record_places (to - from) p.size (s.first + from * p.size))
        (records_add old.caller s.arena p plan can.tally (record_places (to - from) p.size (s.first + from * p.size)) (Ok tt) q.did.own run_read.given
        run_read.reads refl)

    are_numbers : listed a ≡ run_adds.numbers
    are_numbers = ap listed (run_read.added ∙ run_adds.adds [])

    few_numbers : length (h.numbers ++ run_adds.numbers) ≤ to * p.size
    few_numbers =
        let first = h.few in
        let later = run_adds.few in
        let long = length-append h.numbers run_adds.numbers in
        let ends = run_ends from to p.size order in
        omega (arith, first, later, long, ends)

    pub has_room : s.first + s.size ≤ 2 ^ 40 → HasRoomFor (listed a) counts
    has_room ends = record {
      before = h.numbers;
      are = h.are;
      few = (
          let most = mul-le-mul_right p.size within in
          let all = div-mul-le_self s.size p.size in
          let long = length-append h.numbers run_adds.numbers in
          let is = ap (λ (ns : List ℤ). length ns) are_numbers in
          let few = few_numbers in
          omega (arith, most, all, long, is, few, ends)
          );
    }

    pub counted_more : {more : List ℕ} → CountsToo (listed a) counts more → CountedTo old next p s to more
    counted_more {more} too = record {
      own = h.own ++ q.did.own;
      numbers = h.numbers ++ run_adds.numbers;
      records =
          let count : from + (to - from) ≡ to = omega (arith, order) in
          subst (λ k. AddsRecords old.caller s.arena p (record_places k p.size s.first) (Listed [] ∷ []) (Listed (h.numbers ++ run_adds.numbers) ∷ []) (Ok tt)
          (h.own ++ q.did.own)) count
          (subst (λ ps. AddsRecords old.caller s.arena p ps (Listed [] ∷ []) (Listed (h.numbers ++ run_adds.numbers) ∷ []) (Ok tt) (h.own ++ q.did.own))
          (sym (places_split from (to - from) p.size s.first))
          (adds_on (ReadsRecord old.caller s.arena p) joined (record_places from p.size s.first) (record_places (to - from) p.size (s.first + from * p.size))
          (Listed [] ∷ []) (Listed h.numbers ∷ []) (Listed (h.numbers ++ run_adds.numbers) ∷ []) (Ok tt) h.own q.did.own h.records
          (record { given = run_read.given; reads = run_read.reads; added = sym (run_adds.adds h.numbers) })));
      reads = AreReads-append old.caller s h.own q.did.own h.reads (reads_wider old.caller (piece p s from to) s q.did.own lies does.reads);
      few = few_numbers;
      are = subst (λ ns. AreCounts (h.numbers ++ ns) more) are_numbers (too h.numbers h.are);
      makes = Makes-then old now next h.own q.did.own h.makes q.did.makes;
      outside = q.outside;
    }

  -- Or reading stopped.
  pub counting_stopped : {next : View} (r : Refusal) → Queried now next p (piece p s from to) (Err r) → Did old next (DoesCount old.caller p s (Err r))
  counting_stopped {next} r q = record {
    own = h.own ++ q.did.own;
    does = by r (subst (λ (c : Caller). DoesQuery c p (piece p s from to) (Err r) q.did.own) h.makes.same_caller q.did.does);
    makes = Makes-then old now next h.own q.did.own h.makes q.did.makes;
  }
    where
      even : (piece p s from to).size % p.size ≡ 0
      even = mul-mod_left (to - from) p.size

      by : (e : Refusal) → DoesQuery old.caller p (piece p s from to) (Err e) q.did.own → DoesCount old.caller p s (Err e) (h.own ++ q.did.own)
      by (Ragged rest) d = let is = d.0 in let some = d.1 in let none = even in absurd (omega (arith, is, some, none))
      by WrongThread d = absurd (d.1 can.may)
      by Closed d =
          StopsReading-after old.caller s h.own q.did.own h.reads (stops_wider old.caller (piece p s from to) s q.did.own lies d.2)
      by Memory d =
          AreReads-append old.caller s h.own q.did.own h.reads (reads_wider old.caller (piece p s from to) s q.did.own lies d.2)
      by e d = absurd d

-- Where a run ends, in records of the code's own sizes.
pub ends_within : (from more n m size record_size : ℕ) → n ≡ size → m ≡ record_size → from + more ≤ n / m → from + more ≤ size / record_size
ends_within from more n m size record_size is_size is_record h =
    let same : n / m ≡ size / record_size = (λ i. is_size i / is_record i) in omega (arith, same, h)

-- All records were read.
pub counted_all : {old now : View} {p : Plan} {s : Region} {from : ℕ} {counts : List ℕ} → CanCount old p s → CountedTo old now p s from counts
    → from ≡ s.size / p.size → Did old now (DoesCount old.caller p s (Ok counts))
counted_all {old} {now} {p} {s} {from} {counts} can h all = record {
  own = h.own;
  does = record {
    found = Listed h.numbers ∷ [];
    did = record {
      even = can.whole;
      may = can.may;
      records = subst (λ k. AddsRecords old.caller s.arena p (record_places k p.size s.first) (found_over p []) (Listed h.numbers ∷ []) (Ok tt) h.own) all
          (subst (λ gs. AddsRecords old.caller s.arena p (record_places from p.size s.first) gs (Listed h.numbers ∷ []) (Ok tt) h.own)
          (sym (none_found p can.tally)) h.records);
      reads = h.reads;
    };
    are = h.are;
  };
  makes = h.makes;
}
