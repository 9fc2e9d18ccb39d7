-- What counts and readings do are visits to the two arenas.
use Rattle.std.proofs.Common.{◌≡◌, ℕ, suc, ◌+◌, ◌*◌, ◌<◌, ◌≤◌, List, [], ◌∷◌, ◌++◌, length, refl, sym, subst, inl, inr, ⊎_elim, arith, Result, Ok, Err}
use Rattle.std.{specs.{Prelude.{ℤ}, List.{AllByRecursion, flat_map}}, proofs.{lemmas.List.{append-nil, append_assoc}}}
use Rattle.fm_base.specs.declared.{arena_id.ArenaId.{ArenaId}, caller.Caller.{Caller}, refusal.Refusal.{Refusal, TheVariants.{Closed, Memory, TableFull, WrongThread}}}
use Rattle.fm_base.specs.{Calls.{Call, Entry, Found, Read, Reply}, Visits.{reads, refused_visit, visit}}
use Rattle.fm_records.specs.{Reads.{IsWordOf, read_visit, visits_to}, Words.{Seen}}
use Rattle.fm_segment.specs.Region.{Region}
use Rattle.fm_group_lists.specs.Groups.{Group}
use Rattle.fm_group.specs.{Table.{Counter, IsTable, claim_word, count_word, places_in, tried_at}, Values.{Valued}}
use Rattle.fm_group.specs.Counting.{CountsAt, DoesCount, DoesTries, EndsTries, FindsClaim, PassesBy, PassesFirst, ReadsAndTries, ReadsValue, StopsAt, add_act, add_one, claim_act, claim_try, claims, meets, none_yet, one_more, other, shut, uncounted, unnamed, unread}
use Rattle.fm_group.specs.Reading.{DoesReadGroups, EndsAt, ReadsNamed, ReadsPart, ReadsRuns, WantsMemory, at_end, at_run, free, no_run, none_read, one_run, records_shut, run_length, run_seen, runs_in, table_shut, taken}
use Rattle.fm_group_laws.{specs.Shares.{CountsTo, DoesShare, none_counted, one_counted}, proofs.Trying.{tried_within}}
use Rattle.fm_group_crew.specs.{Ends.{Concludes}, Grouped.{IsAct, OnlyVisits, adds, closed, no_more, reads_table, reads_value, swaps, visits}}

-- ---- words of the table

claim_in : (v : Valued) (t : Region) → IsTable v t → (p : ℕ) → p < places_in t → IsWordOf t (claim_word t p)
claim_in v t h p within =
    let a = h.aligned in let e = h.even in
    record { above = omega (arith, a, e, within); below = omega (arith, a, e, within) }

count_in : (v : Valued) (t : Region) → IsTable v t → (p : ℕ) → p < places_in t → IsWordOf t (count_word t p)
count_in v t h p within =
    let a = h.aligned in let e = h.even in
    record { above = omega (arith, a, e, within); below = omega (arith, a, e, within) }

module _ (w : Counter) (c : Caller) where
  -- visits behind each other
  pub both_visit : (xs ys : List Entry) → OnlyVisits w c xs → OnlyVisits w c ys → OnlyVisits w c (xs ++ ys)
  both_visit xs ys no_more k = k
  both_visit xs ys (closed id rest either h) k = closed id (rest ++ ys) either (both_visit rest ys h k)
  both_visit xs ys (visits id acts rest are h) k =
      subst (OnlyVisits w c) (sym (append_assoc (visit c id acts) rest ys)) (visits id acts (rest ++ ys) are (both_visit rest ys h k))

  pub as_visits : {xs ys : List Entry} → ys ≡ xs → OnlyVisits w c xs → OnlyVisits w c ys
  as_visits e h = subst (OnlyVisits w c) (sym e) h

  one_act : (id : ArenaId) (a : Call × Reply) → IsAct w id a.0 → OnlyVisits w c (visit c id (a ∷ []))
  one_act id a h = visits id (a ∷ []) [] (h, tt) no_more

  two_acts : (id : ArenaId) (a b : Call × Reply) → IsAct w id a.0 → IsAct w id b.0 → OnlyVisits w c (visit c id (a ∷ b ∷ []))
  two_acts id a b h k = visits id (a ∷ b ∷ []) [] (h, (k, tt)) no_more

  -- ---- values that are read

  reads_visit : (seen : List Seen) → AllByRecursion (λ x. IsWordOf w.values.records x.0) seen
      → OnlyVisits w c (flat_map (read_visit c w.values.records.arena) seen)
  reads_visit [] h = no_more
  reads_visit (x ∷ seen) h =
      visits w.values.records.arena ((Read w.values.records.arena x.0, Found x.1) ∷ []) (flat_map (read_visit c w.values.records.arena) seen)
      (reads_value x.0 h.0, tt) (reads_visit seen h.1)

  records_closed : OnlyVisits w c (refused_visit c w.values.records.arena)
  records_closed = closed w.values.records.arena [] (inl refl) no_more

  table_closed : OnlyVisits w c (refused_visit c w.table.arena)
  table_closed = closed w.table.arena [] (inr refl) no_more

  seen_visit : {X : Type 0} (r : Result X Refusal) (seen : List Seen) → AllByRecursion (λ x. IsWordOf w.values.records x.0) seen
      → OnlyVisits w c (visits_to c w.values.records.arena r seen)
  seen_visit (Ok x) seen h = reads_visit seen h
  seen_visit (Err Closed) seen h =
      both_visit (flat_map (read_visit c w.values.records.arena) seen) (refused_visit c w.values.records.arena) (reads_visit seen h) records_closed
  seen_visit (Err r) seen h = reads_visit seen h

  value_visits : (n : ℕ) (r : Result ℤ Refusal) (own : List Entry) → ReadsValue c w.values n r own → OnlyVisits w c own
  value_visits n r own h = as_visits h.visits (seen_visit r h.seen h.within)

  module _ (is : IsTable w.values w.table) where
    -- ---- a count

    module _ (n : ℕ) (x : ℤ) where
      module _ (p : ℕ) (within : p < places_in w.table) where
        try_visits : (found : ℕ) → OnlyVisits w c (claim_try c w n p found)
        try_visits found = one_act w.table.arena (claim_act c w n p found) (swaps (claim_word w.table p) 0 (n + 1) (claim_in w.values w.table is p within))

        add_visits : (count : ℕ) → OnlyVisits w c (add_one c w p count)
        add_visits count = one_act w.table.arena (add_act c w p count) (adds (count_word w.table p) 1 (count_in w.values w.table is p within))

        find_visits : (r : Result ℤ Refusal) (own : List Entry) → FindsClaim c w n x p r own → OnlyVisits w c own
        find_visits r own f = as_visits f.parts
            (both_visit (claim_try c w n p f.found) f.reads (try_visits f.found) (value_visits f.value r f.reads f.read))

        count_visits_at : (own : List Entry) → CountsAt c w n x p own → OnlyVisits w c own
        count_visits_at own (claims count) =
            two_acts w.table.arena (claim_act c w n p 0) (add_act c w p count) (swaps (claim_word w.table p) 0 (n + 1) (claim_in w.values w.table is p within))
            (adds (count_word w.table p) 1 (count_in w.values w.table is p within))
        count_visits_at own (meets count first f) = both_visit first (add_one c w p count) (find_visits (Ok x) first f) (add_visits count)

        pass_visits : (own : List Entry) → PassesBy c w n x p own → OnlyVisits w c own
        pass_visits own (unnamed found some none) = try_visits found
        pass_visits own (other y all apart f) = find_visits (Ok y) all f

        stop_visits : (own : List Entry) → StopsAt c w n x p own → OnlyVisits w c own
        stop_visits own shut = table_closed
        stop_visits own (unread all f) = find_visits (Err Closed) all f
        stop_visits own (uncounted first f) = both_visit first (refused_visit c w.table.arena) (find_visits (Ok x) first f) table_closed

    some_places : 0 < places_in w.table
    some_places = let a = is.some in let b = is.even in omega (arith, a, b)

    module _ (n : ℕ) (x : ℤ) where
      passed_visit : (k : ℕ) (own : List Entry) → PassesFirst c w n x k own → OnlyVisits w c own
      passed_visit k own none_yet = no_more
      passed_visit k own (one_more {k = j} first more h q) =
          both_visit first more (passed_visit j first h) (pass_visits n x (tried_at w x j) (tried_within w x j some_places) more q)

      ends_visit : (Ends : ℕ → List Entry → Type 0) → ((p : ℕ) → p < places_in w.table → (own : List Entry) → Ends p own → OnlyVisits w c own)
          → (p : ℕ) (own : List Entry) → EndsTries c w n x Ends p own → OnlyVisits w c own
      ends_visit Ends one p own h =
          let within : p < places_in w.table = subst (λ (q : ℕ). q < places_in w.table) (sym h.place) (tried_within w x h.k some_places) in
          as_visits h.parts (both_visit h.before h.last (passed_visit h.k h.before h.passed) (one p within h.last h.ended))

      tries_visit : (r : Result ℕ Refusal) (own : List Entry) → DoesTries c w n x r own → OnlyVisits w c own
      tries_visit (Ok p) own d = ends_visit (CountsAt c w n x) (λ q within es. count_visits_at n x q within es) p own d
      tries_visit (Err Closed) own d = ends_visit (StopsAt c w n x) (λ q within es. stop_visits n x q within es) d.0 own d.1
      tries_visit (Err TableFull) own d = passed_visit (places_in w.table) own d
      tries_visit (Err r) own d = absurd d

    read_and_tried : (n : ℕ) (r : Result ℕ Refusal) (own : List Entry) → ReadsAndTries c w n r own → OnlyVisits w c own
    read_and_tried n r own h =
        as_visits h.parts (both_visit h.reads h.tries (value_visits n (Ok h.number) h.reads h.read) (tries_visit n h.number r h.tries h.tried))

    count_visits : (n : ℕ) (r : Result ℕ Refusal) (own : List Entry) → DoesCount c w n r own → OnlyVisits w c own
    count_visits n (Ok p) own d = read_and_tried n (Ok p) own d.1
    count_visits n (Err WrongThread) own d = as_visits d.1 no_more
    count_visits n (Err Closed) own d = ⊎_elim
        (λ (h : ReadsValue c w.values n (Err Closed) own). value_visits n (Err Closed) own h)
        (λ (h : ReadsAndTries c w n (Err Closed) own). read_and_tried n (Err Closed) own h) d.1
    count_visits n (Err TableFull) own d = read_and_tried n (Err TableFull) own d.1
    count_visits n (Err r) own d = absurd d

    -- ---- a share

    counted_visit : (from k : ℕ) (ps : List ℕ) (own : List Entry) → CountsTo c w from k ps own → OnlyVisits w c own
    counted_visit from k ps own none_counted = no_more
    counted_visit from k ps own (one_counted {k = j} {ps = qs} p first more h d) =
        both_visit first more (counted_visit from j qs first h) (count_visits j (Ok p) more d)

    pub share_visits : (from to : ℕ) (r : Result (Unit {0}) Refusal) (own : List Entry) → DoesShare c w from to r own → OnlyVisits w c own
    share_visits from to (Ok u) own d = counted_visit from to d.0 own d.1
    share_visits from to (Err r) own d = as_visits d.parts
        (both_visit d.before d.last (counted_visit from d.at d.places d.before d.counted) (count_visits d.at (Err r) d.last d.refused))

    -- ---- the reading

    -- words of a run are words of the table
    run_acts : (first : ℕ) (words : List ℕ) → ((k : ℕ) → first ≤ k → k < first + length words → IsWordOf w.table k)
        → AllByRecursion (λ a. IsAct w w.table.arena a.0) (reads w.table.arena first words)
    run_acts first [] are = tt
    run_acts first (v ∷ words) are =
        (reads_table first (are first (omega arith) (omega arith)), run_acts (suc first) words (λ k low below. are k (omega (arith, low)) (omega (arith, below))))

    run_visits : (k : ℕ) (words : List ℕ) → length words ≡ 2 * run_length w.table k → OnlyVisits w c (run_seen c w k words)
    run_visits k words long =
        as_visits (sym (append-nil (run_seen c w k words)))
        (visits w.table.arena (reads w.table.arena (claim_word w.table (64 * k)) words) [] (run_acts (claim_word w.table (64 * k)) words run_in) no_more)
      where
        run_in : (i : ℕ) → claim_word w.table (64 * k) ≤ i → i < claim_word w.table (64 * k) + length words → IsWordOf w.table i
        run_in i low below =
            let a = is.aligned in let e = is.even in
            record { above = omega (arith, a, e, low, below, long); below = omega (arith, a, e, low, below, long) }

    named_visits : (words : List ℕ) (j : ℕ) (xs : List Group) (own : List Entry) → ReadsNamed c w words j xs own → OnlyVisits w c own
    named_visits words j xs own none_read = no_more
    named_visits words j xs own (free {j = i} before none) = named_visits words i xs own before
    named_visits words j xs own (taken {j = i} {xs = ys} {own = first} before g value more names count read) =
        both_visit first more (named_visits words i ys first before) (value_visits value (Ok g.0) more read)

    part_visits : (k j : ℕ) (xs : List Group) (own : List Entry) → ReadsPart c w k j xs own → OnlyVisits w c own
    part_visits k j xs own h = as_visits h.parts
        (both_visit (run_seen c w k h.words) h.values (run_visits k h.words h.long) (named_visits h.words j xs h.values h.named))

    end_visits : (k : ℕ) (own : List Entry) → EndsAt c w k own → OnlyVisits w c own
    end_visits k own table_shut = table_closed
    end_visits k own (records_shut j value xs first more part within names read) =
        both_visit first more (part_visits k j xs first part) (value_visits value (Err Closed) more read)

    runs_visits : (k : ℕ) (xs : List Group) (own : List Entry) → ReadsRuns c w k xs own → OnlyVisits w c own
    runs_visits k xs own no_run = no_more
    runs_visits k xs own (one_run {k = i} {xs = zs} ys first more before now) =
        both_visit first more (runs_visits i zs first before) (part_visits i (run_length w.table i) ys more now)

    wants_visits : (own : List Entry) → WantsMemory c w own → OnlyVisits w c own
    wants_visits own (at_run k j xs ys first more within most before part some) =
        both_visit first more (runs_visits k xs first before) (part_visits k j ys more part)
    wants_visits own (at_end xs all h some) = runs_visits (runs_in w.table) xs all h

    groups_visit : (r : Result (List Group) Refusal) (own : List Entry) → DoesReadGroups c w r own → OnlyVisits w c own
    groups_visit (Ok gs) own d = runs_visits (runs_in w.table) d.1.found own d.1.reads
    groups_visit (Err WrongThread) own d = as_visits d.1 no_more
    groups_visit (Err Closed) own d =
        let s = d.1 in
        as_visits s.parts (both_visit s.before s.last (runs_visits s.k s.found s.before s.reads) (end_visits s.k s.last s.ended))
    groups_visit (Err Memory) own d = wants_visits own d.1
    groups_visit (Err r) own d = absurd d

    pub concludes_visit : (end : Result (Unit {0}) Refusal) (r : Result (List Group) Refusal) (own : List Entry) → Concludes w end r c own
        → OnlyVisits w c own
    concludes_visit (Ok u) r own d = groups_visit r own d
    concludes_visit (Err e) r own d = as_visits d.1 no_more
