-- What visits read, where each found the region's bytes as a list has them.
use Rattle.std.proofs.Common.{◌≡◌, ℕ, zero, suc, ◌+◌, ◌-◌, ◌*◌, ◌/◌, ◌%◌, ◌<◌, ◌≤◌, Bool, true, false, if◌then◌else◌, ◌==◌, slice_index, Result, Ok, Some, List, [], ◌∷◌, ◌++◌, length, map, take, drop, get_or, refl, sym, ap, ◌∙◌, subst, append_assoc, inl, inr, arith}
use Rattle.std.{specs.{Prelude.{ℤ, ◌&&◌, cond}, List.{AllByRecursion, flat_map, list_all}}, proofs.lemmas.{Grind.{same_number_lists}, Bool.Decides.{nat_tests}}}
use Rattle.std.proofs.lemmas.List.{append-nil, drop-drop, length-drop, length-take-le, get_or-take, get_or-drop, take-append-drop}
use Rattle.std.proofs.lemmas.List.{FromFn.{get_or-map-range_with_len, length-map-range_with_len}, Elements.{filter-append}}
use Rattle.fm_base.specs.{declared.{caller.Caller.{Caller}, refusal.Refusal.{Refusal}}, Calls.{Entry}}
use Rattle.fm_base_lists.{proofs.{Among.{each_mapped, map_among}, Each.{all_both, all_snoc, all_split}}, specs.Among.{IsAmong}}
use Rattle.fm_base_bytes.specs.Words.{byte_of}
use Rattle.fm_lanes.specs.{Coding.{value_of}, Kind.{width_of}, Value.{number_of_value}}
use Rattle.fm_path.specs.{Resolution.{Resolution}, Wide.{wide_dims}, declared.value_spec.ValueSpec.{ValueSpec}}
use Rattle.fm_path_meaning.specs.{Walk.{AreAdmitted, offset_at}, declared.dim.Dim.{Dim}}
use Rattle.fm_records_query.specs.{Plan.{Plan, IsPlan, IsThrough, AsksOf, IsItemIn, IsConditionIn}, declared.condition.Condition.{Condition}}
use Rattle.fm_records_query.specs.declared.item.{Asked.{Asked}, Item.{Item}}
use Rattle.fm_records_query.specs.declared.item.Asked.TheVariants as asked
use Rattle.fm_segment.{proofs.Alone.{take-part}, specs.Region.{Region}}
use Rattle.fm_records.specs.declared.found.Found.{Found}
use Rattle.fm_records.specs.{Answers.{compares, folded, found_in, item_found, found_over, holds as holds_for, chosen as chosen_of}, Bytes.{FindAs, IsByteOf}}
use Rattle.fm_records.specs.{Joined.{joined}, Adds.{all_added}}
use Rattle.fm_records.specs.Reads.{LiesIn, value_places, ReadsNumber, InOrder, InTurn, all_done, one_more, comes_short, no_turn, next_turn, short_turn, TakesNumbers, TakesPath, Tests, TestsConditions, FindsAsked, FindsItems, FindsRecord, ReadsRecord, chosen, passed_over, untested, read_visit, record_places}
use Rattle.fm_records.specs.{Words.{Seen, byte_by, bytes_by, found_at, kept_after, kept_all, kept_last, most_words, or_zero}, Records.{pieces}}
use Rattle.fm_records.{specs.Values.{index_lists, number_there, number_at, numbers_in}, proofs.{Indices.{listed_admitted}, Joining.{found_over-append}}}
use Rattle.fm_records.proofs.{Ordered.{all_added-append}, Getting.{IsFoundAmong, words_found}}

-- ---- runs of bytes of a region

module _ (c : Caller) (s : Region) (bytes : List ℕ) (size : length bytes ≡ s.size) where
  -- what was found at a word is as in the list
  abbrev pub Agrees : Seen → Type 0
  Agrees x = (at : ℕ) → IsByteOf s x.0 at → byte_of x.1 at ≡ slice_index bytes (8 * x.0 + at - s.first)

  abbrev pub Agree : List Seen → Type 0
  Agree seen = AllByRecursion Agrees seen

  -- so it is where their visits found these bytes
  pub agree : (seen : List Seen) → FindAs s bytes (flat_map (read_visit c s.arena) seen) → Agree seen
  agree [] w = tt
  agree (x ∷ xs) w = ((λ at is. w.1.0 x.0 x.1 at refl refl is), agree xs w.1.1.1)

  -- ---- words that are kept, or read for a value

  found_agrees : (seen : List Seen) (w n : ℕ) → Agree seen → found_at seen w ≡ Some n → (at : ℕ) → IsByteOf s w at
      → byte_of n at ≡ slice_index bytes (8 * w + at - s.first)
  found_agrees [] w n h e = absurd (cc)
  found_agrees (x ∷ xs) w n h e = go (λ found. found_agrees xs w n h.1 found) (x.0 == w) refl e
    where
      go : (found_at xs w ≡ Some n → (at : ℕ) → IsByteOf s w at → byte_of n at ≡ slice_index bytes (8 * w + at - s.first)) → (b : Bool) → (x.0 == w) ≡ b → (if b then Some x.1 else found_at xs w) ≡ Some n → (at : ℕ) → IsByteOf s w at
          → byte_of n at ≡ slice_index bytes (8 * w + at - s.first)
      go rest true same found at is =
          let here : x.0 ≡ w = grind (arith, nat_tests) in
          let there : x.1 ≡ n = cc in
          ap (λ m. byte_of m at) (sym there) ∙ h.0 at (subst (λ (v : ℕ). IsByteOf s v at) (sym here) is)
          ∙ ap (λ v. slice_index bytes (8 * v + at - s.first)) here
      go rest false other found at is = rest found at is

  -- each byte of a run, where its words are among those that were found
  bytes_agree : (seen : List Seen) (place width : ℕ) → Agree seen → ((k : ℕ) → k < width → IsFoundAmong seen ((place + k) / 8)) → LiesIn s place width
      → bytes_by seen place width ≡ take width (drop (place - s.first) bytes)
  bytes_agree seen place width h all lies =
      let from = lies.from in
      let within = lies.within in
      let long : length (bytes_by seen place width) ≡ width = length-map-range_with_len (byte_by seen) place width in
      let right : width ≤ length (drop (place - s.first) bytes) = omega (arith, from, within, size, length-drop (place - s.first) bytes) in
      same_number_lists (bytes_by seen place width) (take width (drop (place - s.first) bytes))
      (long ∙ sym (length-take-le width (drop (place - s.first) bytes) right)) (λ k short.
      let below : k < width = omega (arith, short, long) in
      let found = all k below in
      let there : 8 * ((place + k) / 8) + (place + k) % 8 ≡ place + k = omega arith in
      let offset : 8 * ((place + k) / 8) + (place + k) % 8 - s.first ≡ place - s.first + k = omega (arith, from) in
      get_or-map-range_with_len (byte_by seen) place width k (place + k) 0 below refl
      ∙ ap (λ o. byte_of (or_zero o) ((place + k) % 8)) found.1
      ∙ found_agrees seen ((place + k) / 8) found.0 h found.1 ((place + k) % 8) (record {
        in_word = omega arith;
        from = omega (arith, from, there);
        below = omega (arith, below, within, there);
      })
      ∙ ap (λ n. get_or bytes n 0) offset
      ∙ sym (get_or-take width (drop (place - s.first) bytes) k 0 below ∙ get_or-drop (place - s.first) bytes k 0))

  -- ---- numbers

  pub number_of_bytes : (keeps : List Seen → Seen → List Seen) (k l : List Seen) (spec : ValueSpec) (place : ℕ) (own : List Seen) (n : ℤ)
      → ReadsNumber keeps k spec place own n l → LiesIn s place (width_of spec.kind) → Agree k → Agree own
      → n ≡ number_there spec.kind spec.order (place - s.first) bytes
  number_of_bytes keeps k l spec place own n r lies h w =
      r.number
      ∙ ap (λ bs. number_of_value (value_of spec.kind spec.order bs)) (bytes_agree (k ++ own) place (width_of spec.kind) (all_both Agrees k own h w)
      (λ j below. words_found keeps k l spec place own n r j below) lies)

  -- what is kept agrees still
  module _ (keeps : List Seen → Seen → List Seen) (keeping : (k : List Seen) (x : Seen) → Agree k → Agrees x → Agree (keeps k x)) where
    kept_agree : (k xs : List Seen) → Agree k → Agree xs → Agree (kept_after keeps k xs)
    kept_agree k [] h w = h
    kept_agree k (x ∷ xs) h w = kept_agree (keeps k x) xs (keeping k x h w.0) w.1

    numbers_of_bytes : (spec : ValueSpec) (k l : List Seen) (places : List ℕ) (result : Result (Unit {0}) Refusal) (own : List Seen) (ns : List ℤ)
        → TakesNumbers keeps spec k places result own ns l → result ≡ Ok tt → ((place : ℕ) → IsAmong place places → LiesIn s place (width_of spec.kind))
        → Agree k → Agree own → (ns ≡ map (λ place. number_there spec.kind spec.order (place - s.first) bytes) places) × Agree l
    numbers_of_bytes spec k l places result own ns no_turn e lie h w = (refl, h)
    numbers_of_bytes spec k l places result own ns (next_turn {x = place} {xs = left} j first rest given more r others) e lie h w =
        let parts = all_split Agrees first rest w in
        let now = subst Agree (sym r.1.kept) (kept_agree k first h parts.0) in
        let one = number_of_bytes keeps k j spec place first r.0 r.1 (lie place (inl refl)) h parts.0 in
        let behind = numbers_of_bytes spec j l left result rest more others e (λ q a. lie q (inr a)) now parts.1 in (
          ap (λ zs. zs ++ more) (r.2 ∙ ap (λ n. n ∷ []) one) ∙ ap (λ zs. number_there spec.kind spec.order (place - s.first) bytes ∷ zs) behind.0,
          behind.1,
        )
    numbers_of_bytes spec k l places result own ns (short_turn first given apart r) e lie h w = absurd (apart e)

  all_agrees : (k : List Seen) (x : Seen) → Agree k → Agrees x → Agree (kept_all k x)
  all_agrees k x h w =
      let all = subst Agree (sym (take-append-drop most_words (k ++ x ∷ []))) (all_snoc Agrees k x h w) in
      (all_split Agrees (take most_words (k ++ x ∷ [])) (drop most_words (k ++ x ∷ [])) all).0

  last_agrees : (k : List Seen) (x : Seen) → Agree k → Agrees x → Agree (kept_last k x)
  last_agrees [] x h w = (w, tt)
  last_agrees (a ∷ more) x h w = (w, (h.0, tt))

  -- of a path, and what is kept behind it
  path_of_bytes : (ds : List Dim) (spec : ValueSpec) (k l : List Seen) (places : List ℕ) (own : List Seen) (ns : List ℤ)
      → TakesPath ds spec k places (Ok tt) own ns l → ((place : ℕ) → IsAmong place places → LiesIn s place (width_of spec.kind))
      → Agree k → Agree own → (ns ≡ map (λ place. number_there spec.kind spec.order (place - s.first) bytes) places) × Agree l
  path_of_bytes [] spec k l places own ns t lie h w = numbers_of_bytes kept_all all_agrees spec k l places (Ok tt) own ns t refl lie h w
  path_of_bytes (d ∷ ds) spec k l places own ns t lie h w = (
    (numbers_of_bytes kept_last last_agrees spec [] t.0 places (Ok tt) own ns t.1 refl lie tt w).0,
    subst Agree (sym t.2) h,
  )

  -- ---- one record of the region

  -- its bytes, from its place on
  abbrev record_at : ℕ → ℕ → List ℕ
  record_at width place = take width (drop (place - s.first) bytes)

  -- the offset of a path with no index open
  offset_of_none : (at : ℕ) (ds : List Dim) → offset_at at ds [] ≡ at
  offset_of_none at [] = refl
  offset_of_none at (d ∷ ds) = refl

  module _ (width multiple place : ℕ) (lies : LiesIn s place width) where
    -- a value that stands within it
    inside : (r : Resolution) (is : List ℕ) → IsThrough width multiple r → AreAdmitted r.dims is → offset_at r.offset r.dims is + width_of r.value.kind ≤ width
    inside r is t a = subst (λ n. offset_at r.offset r.dims is + width_of r.value.kind ≤ n) t.size (t.stays.inside is a)

    -- is found by the record's bytes
    within_record : (r : Resolution) (is : List ℕ) → IsThrough width multiple r → AreAdmitted r.dims is
        → number_there r.value.kind r.value.order (place + offset_at r.offset r.dims is - s.first) bytes ≡ number_at r is (record_at width place)
    within_record r is t a =
        let at = offset_at r.offset r.dims is in
        let from = lies.from in
        let offset : place + offset_at r.offset r.dims is - s.first ≡ place - s.first + offset_at r.offset r.dims is = omega (arith, from) in
        ap (λ n. number_there r.value.kind r.value.order n bytes) offset ∙ ap (λ bs. number_of_value (value_of r.value.kind r.value.order bs))
        (sym (take-part (width_of r.value.kind) at width (place - s.first) bytes (inside r is t a)))

    -- and lies in the region
    value_lies : (r : Resolution) (is : List ℕ) → IsThrough width multiple r → AreAdmitted r.dims is
        → LiesIn s (place + offset_at r.offset r.dims is) (width_of r.value.kind)
    value_lies r is t a =
        let from = lies.from in let within = lies.within in record { from = omega (arith, from); within = omega (arith, inside r is t a, within) }

    -- the numbers of a path's values
    numbers_of_record : (r : Resolution) (k l own : List Seen) (ns : List ℤ) → IsThrough width multiple r
        → TakesPath (wide_dims r.dims) r.value k (value_places place r.offset r.dims) (Ok tt) own ns l → Agree k → Agree own
        → (ns ≡ numbers_in r (record_at width place)) × Agree l
    numbers_of_record r k l own ns t reads h w =
        let F : List ℕ → ℕ = λ is. place + offset_at r.offset r.dims is in
        let by = path_of_bytes (wide_dims r.dims) r.value k l (value_places place r.offset r.dims) own ns reads
        (each_mapped (λ q. LiesIn s q (width_of r.value.kind)) F (index_lists r.dims) (λ is a. value_lies r is t (listed_admitted r.dims is a))) h w in (
          by.0 ∙ map_among (λ q. number_there r.value.kind r.value.order (q - s.first) bytes) F (λ is. number_at r is (record_at width place))
              (index_lists r.dims) (λ is a. within_record r is t (listed_admitted r.dims is a)),
          by.1,
        )

    -- a condition that was tested
    test_of_bytes : (x : Condition) (k l own : List Seen) (b : Bool) → IsConditionIn width multiple x → Tests place k x (Ok b) own l → Agree k → Agree own
        → (holds_for (record_at width place) x ≡ b) × Agree l
    test_of_bytes x k l own b h t a w =
        let none : AreAdmitted x.path.dims [] = subst (λ ds. AreAdmitted ds []) (sym h.closed) tt in
        let at = offset_of_none x.path.offset x.path.dims in
        let there = subst (λ (n : ℕ). LiesIn s (place + n) (width_of x.path.value.kind)) at (value_lies x.path [] h.through none) in
        let number : t.0 ≡ number_at x.path [] (record_at width place) =
        number_of_bytes kept_all k l x.path.value (place + x.path.offset) own t.0 t.1 there a w
        ∙ ap (λ n. number_there x.path.value.kind x.path.value.order (place + n - s.first) bytes) (sym at)
        ∙ within_record x.path [] h.through none in
        (ap (λ n. compares x.operator n x.literal) (sym number) ∙ t.2, subst Agree (sym t.1.kept) (kept_agree kept_all all_agrees k own a w))

    tests : (cs : List Condition) (result : Result Bool Refusal) (k l own : List Seen) (none : List ℤ) → AllByRecursion (IsConditionIn width multiple) cs
        → InTurn (Ok true) (λ j x r es ns m. Tests place j x r es m) k cs result own none l → (b : Bool) → result ≡ Ok b → Agree k → Agree own
        → (list_all (holds_for (record_at width place)) cs ≡ b) × Agree l
    tests cs result k l own none h no_turn b e a w = (cc, a)
    tests cs r k l own none h (next_turn {x = x} {xs = xs} j one rest given more t others) b e a w =
        let parts = all_split Agrees one rest w in
        let first = test_of_bytes x k j one true h.0 t a parts.0 in
        let behind = tests xs r j l rest more h.1 others b e first.1 parts.1 in
        (ap (λ d. d && list_all (holds_for (record_at width place)) xs) first.0 ∙ behind.0, behind.1)
    tests cs result k l own none h (short_turn one given apart t) true e a w = absurd (apart e)
    tests cs result k l own none h (short_turn {x = x} {xs = xs} one given apart t) false e a w =
        let first = test_of_bytes x k l one false h.0 (subst (λ (r : Result Bool Refusal). Tests place k x r one l) e t) a w in
        (ap (λ d. d && list_all (holds_for (record_at width place)) xs) first.0, first.1)

    pub tests_of_bytes : (cs : List Condition) (k own : List Seen) (b : Bool) → AllByRecursion (IsConditionIn width multiple) cs
        → TestsConditions place [] cs (Ok b) own k → Agree own → (list_all (holds_for (record_at width place)) cs ≡ b) × Agree k
    tests_of_bytes cs k own b h t w = tests cs (Ok b) [] k own [] h t b refl tt w

    -- what an item finds
    item_of_bytes : (a : Asked) (k l own : List Seen) (fs : List Found) → AsksOf width multiple a → FindsAsked place k a (Ok tt) own fs l
        → Agree k → Agree own → (fs ≡ found_in (record_at width place ∷ []) a ∷ []) × Agree l
    item_of_bytes asked.Count k l own fs t h g w = (h.2, subst Agree (sym h.3) g)
    item_of_bytes (asked.Of f r) k l own fs t h g w =
        let by = numbers_of_record r k l own h.0 t h.1 g w in
        (h.2 ∙ ap (λ ns. folded f ns ∷ []) (by.0 ∙ sym (append-nil (numbers_in r (record_at width place)))), by.1)

    items_of_bytes : (items : List Item) (r : Result (Unit {0}) Refusal) (k l own : List Seen) (fs : List Found) → AllByRecursion (IsItemIn width multiple) items
        → FindsItems place k items r own fs l → r ≡ Ok tt → Agree k → Agree own → fs ≡ map (item_found (record_at width place ∷ [])) items
    items_of_bytes items result k l own fs t no_turn e g w = refl
    items_of_bytes items result k l own fs t (next_turn {x = item} {xs = left} j one rest given more h others) e g w =
        let parts = all_split Agrees one rest w in
        let first = item_of_bytes item.asked k j one given t.0 h g parts.0 in
        ap (λ gs. gs ++ more) first.0
        ∙ ap (λ gs. item_found (record_at width place ∷ []) item ∷ gs) (items_of_bytes left result j l rest more t.1 others e first.1 parts.1)
    items_of_bytes items result k l own fs t (short_turn one given apart h) e g w = absurd (apart e)

  -- ---- records

  module _ (p : Plan) (plan : IsPlan p) where
    -- one record alone is chosen where all conditions hold
    chosen_alone : (place : ℕ) (k es : List Seen) (b : Bool) → LiesIn s place p.size → TestsConditions place [] p.conditions (Ok b) es k → Agree es
        → chosen_of p.conditions (record_at p.size place ∷ []) ≡ cond b (record_at p.size place ∷ []) []
    chosen_alone place k own b lies t w =
        ap (λ d. cond d (record_at p.size place ∷ []) []) (tests_of_bytes p.size p.alignment place lies p.conditions k own b plan.conditions t w).0

    -- one record more
    found_of_bytes : (place : ℕ) (result : Result (Unit {0}) Refusal) (own : List Seen) (seen : List (List Found)) (so_far : List Found) (rs : List (List ℕ))
        → LiesIn s place p.size → FindsRecord p place result own seen → result ≡ Ok tt → Agree own
        → so_far ≡ found_over p rs → all_added joined so_far seen ≡ found_over p (rs ++ record_at p.size place ∷ [])
    found_of_bytes place result own seen so_far rs lies (chosen k l one rest fs t h) ok w e =
        let parts = all_split Agrees one rest w in
        let kept = (tests_of_bytes p.size p.alignment place lies p.conditions k one true plan.conditions t parts.0).1 in
        let found : fs ≡ found_over p (record_at p.size place ∷ []) =
        items_of_bytes p.size p.alignment place lies p.items result k l rest fs plan.items h ok kept parts.1
        ∙ ap (λ all. map (item_found all) p.items) (sym (chosen_alone place k one true lies t parts.0)) in
        ap (λ gs. joined gs fs) e ∙ ap (joined (found_over p rs)) found ∙ found_over-append p rs (record_at p.size place ∷ [])
    found_of_bytes place result own seen so_far rs lies (passed_over k one t) ok w e =
        e ∙ ap (λ all. map (item_found all) p.items)
        (sym (filter-append (λ record_bytes. list_all (holds_for record_bytes) p.conditions) rs (record_at p.size place ∷ [])
        ∙ ap (λ more. chosen_of p.conditions rs ++ more) (chosen_alone place k one false lies t w) ∙ append-nil (chosen_of p.conditions rs)))
    found_of_bytes place result own seen so_far rs lies (untested k one t) ok w e = absurd (cc)

    record_of_bytes : (place : ℕ) (own : List Entry) (seen : List (List Found)) (so_far : List Found) (rs : List (List ℕ))
        → LiesIn s place p.size → ReadsRecord c s.arena p place (Ok tt) own seen → FindAs s bytes own
        → so_far ≡ found_over p rs → all_added joined so_far seen ≡ found_over p (rs ++ record_at p.size place ∷ [])
    record_of_bytes place own seen so_far rs lies r w e =
        found_of_bytes place (Ok tt) r.seen seen so_far rs lies r.finds refl (agree r.seen (subst (λ (es : List Entry). FindAs s bytes es) r.visits w)) e

    -- and all records, one behind the other
    pub records_of_bytes : (count place : ℕ) (so_far : List Found) (all : List (List Found)) (result : Result (Unit {0}) Refusal) (own : List Entry)
        (rs : List (List ℕ)) → LiesIn s place (count * p.size) → InOrder (Ok tt) (ReadsRecord c s.arena p) (record_places count p.size place) result own all
        → result ≡ Ok tt → FindAs s bytes own → so_far ≡ found_over p rs
        → all_added joined so_far all ≡ found_over p (rs ++ pieces count p.size (drop (place - s.first) bytes))
    records_of_bytes zero place so_far all result own rs lies all_done ok w e = e ∙ ap (found_over p) (sym (append-nil rs))
    records_of_bytes (suc left) place so_far all result own rs lies (one_more one rest seen more r others) ok w e =
        let parts = all_split _ one rest w in
        let here = record_at p.size place ∷ [] in
        let sum : suc left * p.size ≡ p.size + left * p.size = grind arith in
        let from = lies.from in
        let within = lies.within in
        let offset : place - s.first + p.size ≡ place + p.size - s.first = omega (arith, from) in
        all_added-append joined so_far seen more
        ∙ records_of_bytes left (place + p.size) (all_added joined so_far seen) more result rest (rs ++ here) (record {
          from = omega (arith, from);
          within = omega (arith, within, sum);
        }) others ok parts.1
        (record_of_bytes place one seen so_far rs (record { from = from; within = omega (arith, within, sum) }) r parts.0 e)
        ∙ ap (λ bs. found_over p ((rs ++ here) ++ pieces left p.size bs)) (sym (drop-drop p.size (place - s.first) bytes ∙ ap (λ n. drop n bytes) offset))
        ∙ ap (found_over p) (append_assoc rs here (pieces left p.size (drop p.size (drop (place - s.first) bytes))))
    records_of_bytes (suc left) place so_far all result own rs lies (comes_short one seen apart r) ok w e = absurd (apart ok)
