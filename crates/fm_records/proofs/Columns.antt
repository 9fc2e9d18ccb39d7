-- Values that are alone in their records, one record after the other.
use Rattle.std.{proofs.Common.{◌≡◌, ℕ, zero, suc, ◌+◌, ◌*◌, ◌/◌, ◌^◌, ◌<◌, ◌≤◌, true, Result, Ok, Err, List, [], ◌∷◌, length, map, refl, sym, ap, ◌∙◌, subst, arith}, specs.Prelude.{ℤ, pos}}
use Rattle.std.specs.List.{AllByRecursion, AllZip, flat_map, range_with_len}
use Rattle.std.{specs.Int.{cast_signed, w64}, proofs.lemmas.Int.{to_z_pos}}
use mir.Val.{to_z, of_z}
use Rattle.std.proofs.Math.Nat.{div-le_self, div-mul-le_self, mul-le-mul_right}
use Rattle.fm_base.specs.{declared.{arena_id.ArenaId.{ArenaId}, caller.Caller.{Caller}, refusal.Refusal.{Refusal, TheVariants.{Closed, Memory}}}, View.{View}}
use Rattle.fm_lanes.specs.Kind.{width_of}
use Rattle.fm_path.specs.{Resolution.{Resolution}, declared.value_spec.ValueSpec.{ValueSpec}}
use Rattle.fm_path_meaning.specs.{declared.dim.Dim.{Dim}, Steady.{IsSteady, dip}, Walk.{AreAdmitted, offset_at, reach}}
use Rattle.fm_segment.specs.Region.{Region}
use Rattle.fm_records_query.specs.{Plan.{Plan}, declared.{condition.Condition.{Condition}, fold.Fold.{Fold}, item.{Asked.{Asked}, Item.{Item}}}}
use Rattle.fm_records_query.specs.declared.fold.Fold.TheVariants as fold
use Rattle.fm_records_query.specs.declared.item.Asked.TheVariants as asked
use Rattle.fm_records.specs.declared.found.Found.{Found, TheVariants.{Count, Sum, Least, Greatest, Listed}}
use Rattle.fm_records.specs.{Adds.{Adds, IsItemReadable, all_added, with_number}, Answers.{folded}, Few.{AreFew, IsFew}}
use Rattle.fm_records.specs.{Column.{AddsSegment, AddsUnread, IsColumn, IsCounted}, Joined.{both, joined}, Paths.{AddsAll, CanAddAll}, Texts.{IsFolded, IsFoundOf}}
use Rattle.fm_records.specs.Reads.{CanRead, FindsAsked, FindsItems, InOrder, LiesIn, ReadsRecord, TakesNumber, TakesNumbers, TakesPath, TestsConditions, all_done, chosen, comes_short, next_turn, no_turn, one_more, record_places, short_turn, value_places, visits_to}
use Rattle.fm_records.{specs.{Words.{Seen, kept_after, kept_all, kept_none}}, proofs.{Adding.{places_by_first}, Ordered.{all_added-append}}}
use Rattle.fm_records.proofs.{Items.{item_inside, item_one, with_numbers_both}, Plans.{length-index_lists, plan_items_readable}, Reaching.{wide_places}}
use Rattle.fm_records.proofs.{Behind.{length-record_places}, Seeing.{seen_reads, visits_on}, Visiting.{AreReads-none}}
use Rattle.fm_base.proofs.Making.{Makes-none}
use Rattle.fm_records.proofs.Turns.{in_turn_one}

-- ---- what is kept of a value that is alone changes nothing

none_kept : (own : List Seen) → kept_after kept_none [] own ≡ []
none_kept [] = refl
none_kept (x ∷ xs) = none_kept xs

-- its number is read as it is where words are kept
number_anyway : (spec : ValueSpec) (place : ℕ) (result : Result (Unit {0}) Refusal) (own l : List Seen) (ns : List ℤ)
    → TakesNumber kept_none spec [] place result own ns l → (m : List Seen) × TakesNumbers kept_all spec [] (place ∷ []) result own ns m
number_anyway spec place (Ok u) own l ns h = (
  kept_after kept_all [] own,
  in_turn_one place own ns (h.0, record { words = h.1.words; number = h.1.number; kept = refl }, h.2),
)
number_anyway spec place (Err Closed) own l ns h = ([], short_turn own ns (λ e. cc) h)
number_anyway spec place (Err Memory) own l ns h = (
  kept_after kept_all [] own,
  short_turn own ns (λ e. cc) (h.0, record { words = h.1.words; number = h.1.number; kept = refl }, h.2),
)
number_anyway spec place (Err r) own l ns h = absurd h

-- numbers leave a find of its kind
folded_still : (o : Fold) (f : Found) (ns : List ℤ) → IsFolded o f → IsFolded o (all_added with_number f ns)
folded_still o f [] is = is
folded_still fold.Sum (Sum x) (n ∷ ns) is = folded_still fold.Sum (with_number (Sum x) n) ns tt
folded_still fold.Least (Least x) (n ∷ ns) is = folded_still fold.Least (with_number (Least x) n) ns tt
folded_still fold.Greatest (Greatest x) (n ∷ ns) is = folded_still fold.Greatest (with_number (Greatest x) n) ns tt
folded_still fold.All (Listed xs) (n ∷ ns) is = folded_still fold.All (with_number (Listed xs) n) ns tt
folded_still o f (n ∷ ns) is = absurd is

-- ---- a column is a row, with a value in each record

-- from one to the next it is a record's size
pub stride_is : (n size : ℕ) (z : ℤ) → n ≡ size → size ≤ 2 ^ 40 → z ≡ cast_signed w64 n → to_z w64 (of_z w64 z) ≡ pos size
stride_is n size z is small e =
    let plain : to_z w64 size ≡ pos size = to_z_pos w64 size (omega (arith, small)) in
    ap (λ y. to_z w64 (of_z w64 y)) (e ∙ ap (to_z w64) is ∙ plain) ∙ plain

-- where its values stand
column_places : (place at size i n : ℕ)
    → flat_map (λ j. value_places place (reach at (pos size) j) []) (range_with_len i n) ≡ map (λ p. p + at) (record_places n size (place + i * size))
column_places place at size i zero = refl
column_places place at size i (suc n) =
    let here : place + (at + size * i) ≡ place + i * size + at = grind arith in
    let next : place + (i + 1) * size ≡ place + i * size + size = grind arith in
    ap (λ p. p ∷ flat_map (λ j. value_places place (reach at (pos size) j) []) (range_with_len (i + 1) n)) here
    ∙ ap (λ ps. (place + i * size + at) ∷ ps) (column_places place at size (i + 1) n ∙ ap (λ p. map (λ p. p + at) (record_places n size p)) next)

module _ {p : Plan} {r : Resolution} (is : IsColumn p r) where
  -- what reads the value reads its record
  record_read : (c : Caller) (id : ArenaId) (place : ℕ) (result : Result (Unit {0}) Refusal) (own l : List Seen) (ns : List ℤ)
      → TakesNumber kept_none r.value [] (place + r.offset) result own ns l
      → ReadsRecord c id p place result (visits_to c id result own) ((folded is.asks.fold ns ∷ []) ∷ [])
  record_read c id place result own l ns h =
      let taken = number_anyway r.value (place + r.offset) result own l ns h in
      let places : value_places place r.offset r.dims ≡ (place + r.offset) ∷ [] =
      sym (wide_places place r.offset r.dims) ∙ ap (value_places place r.offset) is.asks.one in
      let path = subst (λ (ws : List Dim). TakesPath ws r.value [] (value_places place r.offset r.dims) result own ns taken.0) (sym is.asks.one)
      (subst (λ (ps : List ℕ). TakesNumbers kept_all r.value [] ps result own ns taken.0) (sym places) taken.1) in
      let finds = subst (λ (a : Asked). FindsAsked place [] a result own (folded is.asks.fold ns ∷ []) taken.0) (sym is.asks.asked) (ns, path, refl) in
      record {
        seen = own;
        visits = refl;
        finds = chosen [] taken.0 [] own (folded is.asks.fold ns ∷ [])
            (subst (λ (cs : List Condition). TestsConditions place [] cs (Ok true) [] []) (sym is.conditions) no_turn)
            (subst (λ (xs : List Item). FindsItems place [] xs result own (folded is.asks.fold ns ∷ []) taken.0) (sym is.items)
            (item_one place [] taken.0 is.item result own (folded is.asks.fold ns ∷ []) finds));
      }

  -- what reads values reads their records
  records_read : (c : Caller) (id : ArenaId) (ps : List ℕ) (result : Result (Unit {0}) Refusal) (own l : List Seen) (ns : List ℤ) (f : Found)
      → TakesNumbers kept_none r.value [] (map (λ q. q + r.offset) ps) result own ns l → IsFolded is.asks.fold f
      → Adds (ReadsRecord c id p) joined ps (f ∷ []) (all_added with_number f ns ∷ []) result (visits_to c id result own)
  records_read c id [] result own l ns f no_turn kind = record { given = []; reads = all_done; added = refl }
  records_read c id (q ∷ qs) result own l ns f (next_turn j first rest given more h others) kind =
      let o = is.asks.fold in
      let none = h.1.kept ∙ none_kept first in
      let behind = records_read c id qs result rest l more (all_added with_number f given)
      (subst (λ (k : List Seen). TakesNumbers kept_none r.value k (map (λ q. q + r.offset) qs) result rest more l) none others)
      (folded_still o f given kind) in
      record {
        given = (folded o given ∷ []) ∷ behind.given;
        reads = subst (λ es. InOrder (Ok tt) (ReadsRecord c id p) (q ∷ qs) result es ((folded o given ∷ []) ∷ behind.given)) (visits_on c id first rest result)
            (one_more (visits_to c id (Ok (tt {0})) first) (visits_to c id result rest) ((folded o given ∷ []) ∷ []) behind.given
            (record_read c id q (Ok tt) first j given h) behind.reads);
        added = ap (λ g. g ∷ []) (all_added-append with_number f given more) ∙ behind.added
            ∙ ap (λ g. all_added joined (g ∷ []) behind.given) (with_numbers_both o f given kind);
      }
  records_read c id (q ∷ qs) result own l ns f (short_turn first given apart h) kind = record {
    given = (folded is.asks.fold given ∷ []) ∷ [];
    reads = comes_short (visits_to c id result first) ((folded is.asks.fold given ∷ []) ∷ []) apart (record_read c id q result first l given h);
    added = ap (λ g. g ∷ []) (with_numbers_both is.asks.fold f given kind);
  }

  few_first : (f : Found) → AreFew 0 p (f ∷ []) → IsFew 0 is.item f
  few_first f few = (subst (λ (xs : List Item). AllZip (IsFew 0) xs (f ∷ [])) is.items few).0

  module _ {s : Region} {n : ℕ} {d : Dim} {v : ValueSpec} (f : Found) (is_n : n ≡ r.offset) (is_v : v ≡ r.value) (on : d.stride ≡ pos p.size)
      (many : d.bound ≡ s.size / p.size) (few : AreFew 0 p (f ∷ [])) where
    -- each value stands in the segment
    value_lies : (i : ℕ) → i < d.bound → LiesIn s (s.first + reach n d.stride i) (width_of v.kind)
    value_lies i below =
        let start = s.first + i * p.size in
        let next : suc i * p.size ≡ i * p.size + p.size = grind arith in
        let last : suc i ≤ s.size / p.size = omega (arith, below, many) in
        let lies : LiesIn s (s.first + i * p.size) p.size = record {
          from = omega arith;
          within = omega (arith, next, mul-le-mul_right p.size last, div-mul-le_self s.size p.size);
        } in
        let readable = subst (λ (xs : List Item). AllByRecursion (IsItemReadable s start) xs) is.items (plan_items_readable refl is.plan lies) in
        let here : s.first + i * p.size + n ≡ s.first + reach n (pos p.size) i = (let turned : p.size * i ≡ i * p.size = grind arith in omega (arith, turned)) in
        subst (λ (z : ℤ). LiesIn s (s.first + reach n z i) (width_of v.kind)) (sym on)
        (subst (λ (k : ℕ). LiesIn s k (width_of v.kind)) here
        ((item_inside s start is.item.asked is.asks.asked is_n (sym is.asks.one) is_v readable.0).lies [] tt))

    -- so they can be added
    pub column_can : {now : View} → CanRead now s → CanAddAll now s s.first n d [] v f
    column_can can = record {
      can = can;
      some = ([], tt);
      inside = record { steady = steady; lies = lies };
      room = (
        0,
        (let all = length-index_lists (d ∷ []) in let fewer = div-le_self s.size p.size in let ends = can.ends in omega (arith, all, many, fewer, ends)),
        (few_first f few).by,
      );
    }
      where
        steady : (ks : List ℕ) → AreAdmitted (d ∷ []) ks → IsSteady n (d ∷ []) ks
        steady [] a = absurd a
        steady (i ∷ ks) a =
            let within = (value_lies i a.0).within in
            let ends = can.ends in
            let back = ap (λ z. dip z i) on in
            (record { back = omega (arith, back); on = omega (arith, within, ends) }, tt)

        lies : (ks : List ℕ) → AreAdmitted (d ∷ []) ks → LiesIn s (s.first + offset_at n (d ∷ []) ks) (width_of v.kind)
        lies [] a = absurd a
        lies (i ∷ ks) a = value_lies i a.0

    -- what was added is what the records give
    pub column_added : {old new : View} (g : Found) (result : Result (Unit {0}) Refusal)
        → AddsAll kept_none old new s s.first n (d ∷ []) v [] [] f g result → AddsSegment old new s p (f ∷ []) (g ∷ []) result
    column_added {old} {new} g result t =
        let a = t.does.does in
        let qs = record_places (s.size / p.size) p.size s.first in
        let places : value_places s.first n (d ∷ []) ≡ map (λ q. q + r.offset) qs =
        ap (λ m. value_places s.first m (d ∷ [])) is_n ∙ places_by_first s.first r.offset d []
        ∙ ap (λ z. flat_map (λ j. value_places s.first (reach r.offset z j) []) (range_with_len 0 d.bound)) on
        ∙ ap (λ m. flat_map (λ j. value_places s.first (reach r.offset (pos p.size) j) []) (range_with_len 0 m)) many
        ∙ column_places s.first r.offset p.size 0 (s.size / p.size)
        ∙ ap (λ q. map (λ q. q + r.offset) (record_places (s.size / p.size) p.size q)) (omega arith) in
        let reads = subst (λ (ps : List ℕ). TakesNumbers kept_none r.value [] ps result t.does.seen a.given []) places
        (subst (λ (w : ValueSpec). TakesNumbers kept_none w [] (value_places s.first n (d ∷ [])) result t.does.seen a.given []) is_v a.reads) in
        let kind = subst (λ (b : Asked). IsFoundOf b f) is.asks.asked (few_first f few).kind in
        let all = records_read old.caller s.arena qs result t.does.seen [] a.given f reads kind in
        record {
          own = t.own;
          does = (
            seen_reads result t.does,
            subst (λ es. Adds (ReadsRecord old.caller s.arena p) joined qs (f ∷ []) (g ∷ []) result es) (sym t.does.visits)
                (subst (λ (h : Found). Adds (ReadsRecord old.caller s.arena p) joined qs (f ∷ []) (h ∷ []) result (visits_to old.caller s.arena result t.does.seen))
                (sym a.added) all),
          );
          makes = t.makes;
        }

-- ---- records that are counted

module _ {p : Plan} (is : IsCounted p) where
  -- one, of which no word is read
  count_read : (c : Caller) (id : ArenaId) (place : ℕ) → ReadsRecord c id p place (Ok (tt {0})) [] ((Count 1 ∷ []) ∷ [])
  count_read c id place =
      let finds = subst (λ (a : Asked). FindsAsked place [] a (Ok (tt {0})) [] (Count 1 ∷ []) []) (sym is.asked) (refl, refl, refl, refl) in
      record {
        seen = [];
        visits = refl;
        finds = chosen [] [] [] [] (Count 1 ∷ [])
            (subst (λ (cs : List Condition). TestsConditions place [] cs (Ok true) [] []) (sym is.conditions) no_turn)
            (subst (λ (xs : List Item). FindsItems place [] xs (Ok (tt {0})) [] (Count 1 ∷ []) []) (sym is.items)
            (item_one place [] [] is.item (Ok (tt {0})) [] (Count 1 ∷ []) finds));
      }

  counts_read : (c : Caller) (id : ArenaId) (ps : List ℕ) (m : ℕ)
      → Adds (ReadsRecord c id p) joined ps (Count m ∷ []) (Count (m + length ps) ∷ []) (Ok (tt {0})) []
  counts_read c id [] m = record { given = []; reads = all_done; added = ap (λ n. Count n ∷ []) (omega arith) }
  counts_read c id (q ∷ qs) m =
      let behind = counts_read c id qs (m + 1) in
      let sum : m + 1 + length qs ≡ m + suc (length qs) = omega arith in
      record {
        given = (Count 1 ∷ []) ∷ behind.given;
        reads = one_more [] [] ((Count 1 ∷ []) ∷ []) behind.given (count_read c id q) behind.reads;
        added = ap (λ n. Count n ∷ []) (sym sum) ∙ behind.added;
      }

  -- all of the segment
  pub counted_all : {s : Region} (f g : Found) (n : ℕ) → n ≡ s.size / p.size → AreFew 0 p (f ∷ []) → g ≡ both f (Count n) → AddsUnread s p (f ∷ []) (g ∷ [])
  counted_all {s} f g n is_n few added v =
      let kind = (subst (λ (xs : List Item). AllZip (IsFew 0) xs (f ∷ [])) is.items few).0.kind in
      record {
        own = [];
        does = (AreReads-none v.caller s, by f (subst (λ (a : Asked). IsFoundOf a f) is.asked kind) added);
        makes = Makes-none v;
      }
    where
      by : (h : Found) → IsFoundOf asked.Count h → g ≡ both h (Count n)
          → Adds (ReadsRecord v.caller s.arena p) joined (record_places (s.size / p.size) p.size s.first) (h ∷ []) (g ∷ []) (Ok (tt {0})) []
      by (Count m) k e =
          let many = length-record_places (s.size / p.size) p.size s.first ∙ sym is_n in
          subst (λ (x : Found). Adds (ReadsRecord v.caller s.arena p) joined (record_places (s.size / p.size) p.size s.first) (Count m ∷ []) (x ∷ []) (Ok (tt {0})) [])
          (ap (λ i. Count (m + i)) many ∙ sym e) (counts_read v.caller s.arena (record_places (s.size / p.size) p.size s.first) m)
      by x k e = absurd k
