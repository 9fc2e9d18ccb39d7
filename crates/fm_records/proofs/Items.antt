-- What items find in a record, added to what they found before, one item after the other.
use Rattle.std.proofs.Common.{◌≡◌, ℕ, zero, suc, ◌+◌, Result, Ok, Err, List, [], ◌∷◌, ◌++◌, Option, None, Some, length, map, refl, sym, ap, ◌∙◌, subst, append_assoc, arith, ◌<◌, ◌≤◌, take, drop, get_or, slice_set}
use Rattle.std.{specs.{Prelude.{ℤ, ◌≢◌}, List.{AllZip}}, proofs.lemmas.List.{append-nil, take-append-drop, take_more, take_all, length-take-le, length-append}}
use Rattle.std.proofs.lemmas.Slice.Zip.{AllZip-long}
use Rattle.fm_base.specs.{declared.refusal.Refusal.{Refusal}, View.{View}}
use Rattle.fm_segment.specs.Region.{Region}
use Rattle.fm_path.specs.{Resolution.{Resolution}, Wide.{wide_dims}, declared.value_spec.ValueSpec.{ValueSpec}}
use Rattle.fm_path_meaning.specs.{declared.dim.Dim.{Dim}, Walk.{offset_at}}
use Rattle.fm_records_query.specs.declared.{fold.Fold.{Fold}, item.{Asked.{Asked}, Item.{Item}}}
use Rattle.fm_records_query.specs.declared.fold.Fold.TheVariants as fold
use Rattle.fm_records_query.specs.declared.item.Asked.TheVariants as asked
use Rattle.fm_records.specs.declared.found.Found.{Found, TheVariants.{Count, Sum, Least, Greatest, Listed}}
use Rattle.fm_records.specs.{Answers.{folded, lesser, greater, least_of, greatest_of}, Joined.{both, joined}}
use Rattle.fm_records.specs.{Adds.{AddsItem, AddsItems, AddsNumbers, all_added, IsReadable, ReachesInside, with_number}, Few.{HasRoom, how_many, IsOpen}}
use Rattle.fm_records.specs.{Paths.{AddsAll}, Values.{index_lists}}
use Rattle.fm_records.specs.Reads.{no_turn, short_turn, FindsAsked, FindsItems, next_turn, Sees, TakesNumber, TakesNumbers, TakesPath, value_places}
use Rattle.fm_records.{specs.{Words.{Seen, kept_all, kept_last}, Texts.{IsFolded, IsFoundOf}}, proofs.{Ends.{lesser-lesser, greater-greater}, Few.{sums}}}
use Rattle.fm_records.proofs.{Reaching.{wide_inside, wide_many, wide_places}, Steps.{zip_at}, Seeing.{sees_as, sees_none, sees_on}}
use Rattle.fm_records.proofs.Turns.{in_turn_on, in_turn_cut, in_turn_one, turn_none}

-- ---- one item

lesser-none : (o : Option ℤ) → lesser o None ≡ o
lesser-none None = refl
lesser-none (Some x) = refl

leasts : (o : Option ℤ) (ns : List ℤ) → all_added with_number (Least o) ns ≡ Least (lesser o (least_of ns))
leasts o [] = ap Least (sym (lesser-none o))
leasts o (n ∷ ns) = leasts (lesser o (Some n)) ns ∙ ap Least (lesser-lesser o (Some n) (least_of ns))

greater-none : (o : Option ℤ) → greater o None ≡ o
greater-none None = refl
greater-none (Some x) = refl

greatests : (o : Option ℤ) (ns : List ℤ) → all_added with_number (Greatest o) ns ≡ Greatest (greater o (greatest_of ns))
greatests o [] = ap Greatest (sym (greater-none o))
greatests o (n ∷ ns) = greatests (greater o (Some n)) ns ∙ ap Greatest (greater-greater o (Some n) (greatest_of ns))

lists : (zs ns : List ℤ) → all_added with_number (Listed zs) ns ≡ Listed (zs ++ ns)
lists zs [] = ap Listed (sym (append-nil zs))
lists zs (n ∷ ns) = lists (zs ++ n ∷ []) ns ∙ ap Listed (append_assoc zs (n ∷ []) ns)

-- one by one, or folded first
pub with_numbers_both : (f : Fold) (found : Found) (ns : List ℤ) → IsFolded f found → all_added with_number found ns ≡ both found (folded f ns)
with_numbers_both fold.Sum (Sum x) ns is = sums x ns
with_numbers_both fold.Least (Least o) ns is = leasts o ns
with_numbers_both fold.Greatest (Greatest o) ns is = greatests o ns
with_numbers_both fold.All (Listed zs) ns is = lists zs ns
with_numbers_both f found ns is = absurd is

-- a path's values, by what calls gave of it
module _ (s : Region) (place : ℕ) (a : Asked) {f : Fold} {r : Resolution} {n : ℕ} {ds : List Dim} {v : ValueSpec} (is : a ≡ asked.Of f r)
    (is_n : n ≡ r.offset) (is_ds : ds ≡ wide_dims r.dims) (is_v : v ≡ r.value) where
  there : (P : ValueSpec → List ℕ → Type 0) → P v (value_places place n ds) → P r.value (value_places place r.offset r.dims)
  there P h =
      let same = ap (λ k. value_places place k ds) is_n ∙ ap (value_places place r.offset) is_ds ∙ wide_places place r.offset r.dims in
      subst (λ (w : ValueSpec). P w (value_places place r.offset r.dims)) is_v (subst (P v) same h)

  -- they stand in the segment, and can be added
  pub item_inside : IsReadable s place a → ReachesInside s place n ds v
  item_inside readable =
      let within = wide_inside s place r.offset r.dims r.value (subst (λ (b : Asked). IsReadable s place b) is readable) in
      subst (λ (w : ValueSpec). ReachesInside s place n ds w) (sym is_v)
      (subst (λ (k : ℕ). ReachesInside s place k ds r.value) (sym is_n)
      (subst (λ (xs : List Dim). ReachesInside s place r.offset xs r.value) (sym is_ds) within))

  pub item_room : (found : Found) → HasRoom found (how_many a) → HasRoom found (length (index_lists ds))
  item_room found room =
      let many = ap (λ (xs : List Dim). length (index_lists xs)) is_ds ∙ wide_many r.dims in
      subst (HasRoom found) (ap how_many is ∙ sym many) room

  -- what was read of them is what the item finds
  found_there : (k l : List Seen) (g h : Found) (result : Result (Unit {0}) Refusal) (own : List Seen) (ns : List ℤ) → IsFoundOf a g
      → h ≡ all_added with_number g ns → TakesPath ds v k (value_places place n ds) result own ns l → AddsItem place k a g h l result own
  found_there k l g h result own ns kind added t =
      let path = there (λ w ps. TakesPath (wide_dims r.dims) w k ps result own ns l)
      (subst (λ (ws : List Dim). TakesPath ws v k (value_places place n ds) result own ns l) is_ds t) in
      subst (λ (b : Asked). AddsItem place k b g h l result own) (sym is) (record {
        found = folded f ns;
        finds = (ns, path, refl);
        added = added ∙ with_numbers_both f g ns (subst (λ (b : Asked). IsFoundOf b g) is kind);
      })

  -- of a path with no wide step
  pub item_closed : {old new : View} (k l : List Seen) (g h : Found) (result : Result (Unit {0}) Refusal) → ds ≡ [] → IsFoundOf a g
      → AddsAll kept_all old new s place n [] v k l g h result → Sees old new s (AddsItem place k a g h l) result
  item_closed {old} {new} k l g h result none kind d =
      sees_as (AddsNumbers kept_all v k (value_places place n []) g h l) (AddsItem place k a g h l) result d (λ x.
      found_there k l g h result d.does.seen x.given kind x.added
      (subst (λ (ws : List Dim). TakesPath ws v k (value_places place n ws) result d.does.seen x.given l) (sym none) x.reads))

  -- of one with wide steps
  by_rows : (ws : List Dim) (k m : List Seen) (places : List ℕ) (result : Result (Unit {0}) Refusal) (own : List Seen) (ns : List ℤ) → ws ≢ []
      → TakesNumbers kept_last v [] places result own ns m → TakesPath ws v k places result own ns k
  by_rows [] k m places result own ns wide t = absurd (wide refl)
  by_rows (w ∷ ws) k m places result own ns wide t = (m, t, refl)

  pub item_open : {old new : View} (k m : List Seen) (g h : Found) (result : Result (Unit {0}) Refusal) → ds ≢ [] → IsFoundOf a g
      → AddsAll kept_last old new s place n ds v [] m g h result → Sees old new s (AddsItem place k a g h k) result
  item_open {old} {new} k m g h result wide kind d =
      sees_as (AddsNumbers kept_last v [] (value_places place n ds) g h m) (AddsItem place k a g h k) result d (λ x.
      found_there k k g h result d.does.seen x.given kind x.added
      (by_rows ds k m (value_places place n ds) result d.does.seen x.given wide x.reads))

-- where there are no values, none are added
pub none_open : {v : View} {s : Region} (place at : ℕ) (ds : List Dim) (spec : ValueSpec) (f : Found) → index_lists ds ≡ []
    → AddsAll kept_last v v s place at ds spec [] [] f f (Ok (tt {0}))
none_open {v} {s} place at ds spec f none =
    subst (λ (iss : List (List ℕ)). Sees v v s (AddsNumbers kept_last spec [] (map (λ is. place + offset_at at ds is) iss) f f []) (Ok (tt {0}))) (sym none)
    (turn_none (TakesNumber kept_last spec) with_number v f [])

-- a count
pub item_counted : (old : View) (s : Region) (place : ℕ) (k : List Seen) (a : Asked) (g h : Found) → a ≡ asked.Count → h ≡ both g (Count 1)
    → Sees old old s (AddsItem place k a g h k) (Ok (tt {0}))
item_counted old s place k a g h is e =
    sees_none old s tt (subst (λ (b : Asked). AddsItem place k b g h k (Ok (tt {0})) []) (sym is)
    (record { found = Count 1; finds = (refl, refl, refl, refl); added = e }))

-- ---- finds, joined one by one

pub joined-none : (fs : List Found) → joined fs [] ≡ fs
joined-none [] = refl
joined-none (f ∷ fs) = refl

length-joined : (fs gs : List Found) → length (joined fs gs) ≡ length fs
length-joined [] gs = refl
length-joined (f ∷ fs) [] = refl
length-joined (f ∷ fs) (g ∷ gs) = ap suc (length-joined fs gs)

-- those behind stay as they were
joined-past : (fs gs : List Found) (k : ℕ) (e : Found) → length gs ≤ k → get_or (joined fs gs) k e ≡ get_or fs k e
joined-past [] gs k e past = refl
joined-past (f ∷ fs) [] k e past = refl
joined-past (f ∷ fs) (g ∷ gs) zero e past = absurd (omega arith)
joined-past (f ∷ fs) (g ∷ gs) (suc k) e past = joined-past fs gs k e (omega arith)

-- one more
joined-more : (fs gs : List Found) (k : ℕ) (g h e : Found) → length gs ≡ k → k < length fs → g ≡ both (get_or fs k e) h
    → slice_set (joined fs gs) k g ≡ joined fs (gs ++ h ∷ [])
joined-more [] gs k g h e long below is = absurd (omega arith)
joined-more (f ∷ fs) [] zero g h e long below is = ap (λ x. x ∷ fs) is ∙ ap (λ xs. both f h ∷ xs) (sym (joined-none fs))
joined-more (f ∷ fs) [] (suc k) g h e long below is = absurd (omega arith)
joined-more (f ∷ fs) (x ∷ gs) zero g h e long below is = absurd (omega arith)
joined-more (f ∷ fs) (x ∷ gs) (suc k) g h e long below is =
    ap (λ xs. both f x ∷ xs) (joined-more fs gs k g h e (omega (arith, long)) (omega (arith, below)) is)

-- ---- items in order

-- each finds one
one_found : (place : ℕ) (k l : List Seen) (a : Asked) (result : Result (Unit {0}) Refusal) (own : List Seen) (fs : List Found)
    → FindsAsked place k a result own fs l → length fs ≡ 1
one_found place k l asked.Count result own fs h = ap length h.2
one_found place k l (asked.Of f r) result own fs h = ap length h.2

as_many : (place : ℕ) (k l : List Seen) (items : List Item) (result : Result (Unit {0}) Refusal) (own : List Seen) (fs : List Found)
    → FindsItems place k items result own fs l → result ≡ Ok tt → length fs ≡ length items
as_many place k l items result own fs no_turn e = refl
as_many place k l items result own fs (next_turn {x = x} {xs = left} j first rest given more h t) e =
    let one = one_found place k j x.asked (Ok tt) first given h in
    let others = as_many place j l left result rest more t e in
    omega (arith, one, others, length-append given more)
as_many place k l items result own fs (short_turn first given apart h) e = absurd (apart e)

-- one item alone
pub item_one : (place : ℕ) (k l : List Seen) (x : Item) (result : Result (Unit {0}) Refusal) (own : List Seen) (fs : List Found)
    → FindsAsked place k x.asked result own fs l → FindsItems place k (x ∷ []) result own fs l
item_one place k l x (Ok u) own fs h = in_turn_one x own fs h
item_one place k l x (Err r) own fs h = short_turn own fs (λ e. cc) h

-- the first i items were added
pub record AreItemsAdded (old now : View) (s : Region) (place : ℕ) (k l : List Seen) (items : List Item) (fs gs : List Found) (i : ℕ) : Type 0 where
  pub did : Sees old now s (AddsItems place k (take i items) fs gs l) (Ok (tt {0}))

-- none yet
pub items_start : (old : View) (s : Region) (place : ℕ) (k : List Seen) (items : List Item) (fs : List Found) → AreItemsAdded old old s place k k items fs fs 0
items_start old s place k items fs = record { did = sees_none old s tt (record { found = []; finds = no_turn; added = sym (joined-none fs) }) }

module _ {old now : View} {s : Region} {place : ℕ} {k l : List Seen} {items : List Item} {fs gs : List Found} {i : ℕ}
    (a : AreItemsAdded old now s place k l items fs gs i) (are : AllZip IsOpen items fs) (below : i < length items) where
  -- there is a find for the next item
  pub next_within : i < length gs
  next_within = omega (arith, below, AllZip-long IsOpen items fs are, ap length a.did.does.does.added, length-joined fs a.did.does.does.found)

  module _ (x : Item) (here : x ≡ get_or items i x) where
    many : length a.did.does.does.found ≡ i
    many =
        as_many place k l (take i items) (Ok tt) a.did.does.seen a.did.does.does.found a.did.does.does.finds refl
        ∙ length-take-le i items (omega (arith, below))

    -- which is as it was
    still : (e : Found) → get_or gs i e ≡ get_or fs i e
    still e = ap (λ xs. get_or xs i e) a.did.does.does.added ∙ joined-past fs a.did.does.does.found i e (omega (arith, many))

    -- It can be added to.
    pub next_open : (e : Found) → IsOpen x (get_or gs i e)
    next_open e =
        subst (λ y. IsOpen y (get_or gs i e)) (sym here) (subst (IsOpen (get_or items i x)) (sym (still e))
        (zip_at IsOpen items fs i x e are below))

    module _ {next : View} {m : List Seen} (g e : Found) (result : Result (Unit {0}) Refusal)
        (d : Sees now next s (AddsItem place l x.asked (get_or gs i e) g m) result) where
      to : take i items ++ x ∷ [] ≡ take (i + 1) items
      to = ap (λ y. take i items ++ y ∷ []) here ∙ sym (take_more items i x below)

      -- One item more is added, as far as reading comes.
      more : Sees old next s (AddsItems place k (take (i + 1) items) fs (slice_set gs i g) m) result
      more =
          let before = a.did.does.does in
          subst (λ (ys : List Item). Sees old next s (AddsItems place k ys fs (slice_set gs i g) m) result) to
          (sees_on (AddsItem place l x.asked (get_or gs i e) g m) (AddsItems place k (take i items ++ x ∷ []) fs (slice_set gs i g) m) result a.did d (λ h.
          record {
            found = before.found ++ h.found ∷ [];
            finds = in_turn_on (take i items) (x ∷ []) (Ok tt) result a.did.does.seen d.does.seen before.found (h.found ∷ []) before.finds refl
                (item_one place l m x result d.does.seen (h.found ∷ []) h.finds);
            added = ap (λ xs. slice_set xs i g) before.added
                ∙ joined-more fs before.found i g h.found e many (omega (arith, below, AllZip-long IsOpen items fs are))
                (h.added ∙ ap (λ y. both y h.found) (still e));
          }))

      -- It is.
      pub item_more : result ≡ Ok tt → AreItemsAdded old next s place k m items fs (slice_set gs i g) (i + 1)
      item_more is = record { did = subst (Sees old next s (AddsItems place k (take (i + 1) items) fs (slice_set gs i g) m)) is more }

      -- Or it stops.
      pub item_refused : result ≢ Ok tt → Sees old next s (AddsItems place k items fs (slice_set gs i g) m) result
      item_refused apart =
          subst (λ (ys : List Item). Sees old next s (AddsItems place k ys fs (slice_set gs i g) m) result) (take-append-drop (i + 1) items)
          (sees_as (AddsItems place k (take (i + 1) items) fs (slice_set gs i g) m)
          (AddsItems place k (take (i + 1) items ++ drop (i + 1) items) fs (slice_set gs i g) m) result more (λ h. record {
            found = h.found;
            finds = in_turn_cut (take (i + 1) items) (drop (i + 1) items) result more.does.seen h.found h.finds apart;
            added = h.added;
          }))

-- None is left.
pub items_all : {old now : View} {s : Region} {place : ℕ} {k l : List Seen} {items : List Item} {fs gs : List Found} {i : ℕ}
    → AreItemsAdded old now s place k l items fs gs i → length items ≤ i → Sees old now s (AddsItems place k items fs gs l) (Ok (tt {0}))
items_all {old} {now} {s} {place} {k} {l} {items} {fs} {gs} {i} a past =
    subst (λ (ys : List Item). Sees old now s (AddsItems place k ys fs gs l) (Ok (tt {0}))) (take_all i items past) a.did
