-- What is read of a table that nobody else changes is what stands there.
use Rattle.std.proofs.Common.{◌≡◌, ◌⊎◌, ℕ, zero, suc, ◌+◌, ◌*◌, ◌<◌, ◌≤◌, min, List, [], ◌∷◌, ◌++◌, length, get_or, append_assoc, refl, sym, ap, ◌∙◌, subst, inr, arith, Some, None, Ok}
use Rattle.std.{specs.{List.{AllByRecursion}}, proofs.lemmas.List.{append-nil}}
use Rattle.fm_base_lists.{specs.Among.{IsAmong}, proofs.{Among.{all_filtered}, Each.{all_both, all_split, all_weaker}}}
use Rattle.fm_base.specs.{declared.{arena_id.ArenaId.{ArenaId}, caller.Caller.{Caller}}, Arenas.{are_one, word_in}, Calls.{Call, Enter, Entry, Fine, Leave, Read, entry_of}, Histories.{made_by}, Untouched.{Spares}, Visits.{entries_of, reads}}
use Rattle.fm_base.{specs.Counting.{LeavesWord}, proofs.Either.{by_either}}
use Rattle.fm_base_laws.{specs.Left.{FindsWord}, proofs.Left.{left_is_found}}
use Rattle.fm_records.{specs.{Alone.{bytes_at_places}, Bytes.{FindAs}, Shares.{IsSpared}}, proofs.{AnsweringBytes.{length-places}, Sharing.{spared_found}}}
use Rattle.fm_group_lists.specs.{Groups.{AreSummed, Group}, Settled.{named, named_below}}
use Rattle.fm_group.{specs.{Table.{Counter, claim_word, count_word, named_by, places_in}, Values.{AreValued}}, proofs.Naming.{named_one}}
use Rattle.fm_group.specs.Reading.{DoesReadGroups, ReadsNamed, ReadsPart, ReadsRuns, claim_of, count_of, free, no_run, none_read, one_run, run_length, run_seen, runs_in, taken}
use Rattle.fm_group_laws.{specs.{Laws.{ReadAsItStands, ReadByItself}, Shares.{IsElsewhere, NobodyElseCounts}, Standing.{key_at, number_if}, Touching.{IsIdle}}, proofs.{Settling.{value_by}, Trying.{value_idle}}}

-- ---- a reading changes nothing

idle_elsewhere : (w : Counter) (call : Call) → IsIdle call → IsElsewhere w call
idle_elsewhere w (Enter a) i = record { claims = λ p b. tt; counts = λ p b. tt; records = λ place from b. tt }
idle_elsewhere w (Read a word) i = record { claims = λ p b. tt; counts = λ p b. tt; records = λ place from b. tt }
idle_elsewhere w (Leave a) i = record { claims = λ p b. tt; counts = λ p b. tt; records = λ place from b. tt }
idle_elsewhere w call i = absurd i

module _ (c : Caller) (w : Counter) where
  words_idle : (first : ℕ) (words : List ℕ) → AllByRecursion (λ e. IsIdle e.call) (entries_of c (reads w.table.arena first words))
  words_idle first [] = tt
  words_idle first (v ∷ words) = (tt, words_idle (suc first) words)

  run_idle : (k : ℕ) (words : List ℕ) → AllByRecursion (λ e. IsIdle e.call) (run_seen c w k words)
  run_idle k words = (
    tt,
    all_both (λ e. IsIdle e.call) (entries_of c (reads w.table.arena (claim_word w.table (64 * k)) words)) (entry_of c (Leave w.table.arena) Fine ∷ [])
        (words_idle (claim_word w.table (64 * k)) words) (tt, tt),
  )

  named_idle : (words : List ℕ) (j : ℕ) (xs : List Group) (own : List Entry) → ReadsNamed c w words j xs own → AllByRecursion (λ e. IsIdle e.call) own
  named_idle words j xs own none_read = tt
  named_idle words j xs own (free {j = i} before none) = named_idle words i xs own before
  named_idle words j xs own (taken {j = i} {xs = ys} {own = first} before g value more names is read) =
      all_both (λ e. IsIdle e.call) first more (named_idle words i ys first before) (value_idle c w.values value (Ok g.0) more read)

  part_idle : (k j : ℕ) (xs : List Group) (own : List Entry) → ReadsPart c w k j xs own → AllByRecursion (λ e. IsIdle e.call) own
  part_idle k j xs own h = subst (λ (es : List Entry). AllByRecursion (λ e. IsIdle e.call) es) (sym h.parts)
      (all_both (λ e. IsIdle e.call) (run_seen c w k h.words) h.values (run_idle k h.words) (named_idle h.words j xs h.values h.named))

  runs_idle : (k : ℕ) (xs : List Group) (own : List Entry) → ReadsRuns c w k xs own → AllByRecursion (λ e. IsIdle e.call) own
  runs_idle k xs own no_run = tt
  runs_idle k xs own (one_run {k = i} {xs = zs} ys first more before now) =
      all_both (λ e. IsIdle e.call) first more (runs_idle i zs first before) (part_idle i (run_length w.table i) ys more now)

  own_elsewhere : (k : ℕ) (xs : List Group) (own : List Entry) → ReadsRuns c w k xs own → AllByRecursion (λ e. IsElsewhere w e.call) own
  own_elsewhere k xs own h = all_weaker (λ e. IsIdle e.call) (λ e. IsElsewhere w e.call) (λ e i. idle_elsewhere w e.call i) own (runs_idle k xs own h)

-- ---- what stands there is found

word_found : (c : Caller) (id : ArenaId) (word v first i : ℕ) (words : List ℕ) → AllByRecursion (FindsWord id word v) (entries_of c (reads id first words))
    → i < length words → word ≡ first + i → get_or words i 0 ≡ v
word_found c id word v first i [] h below at = absurd (omega (arith, below))
word_found c id word v first zero (u ∷ words) h below at = h.0 u (ap (Read id) (omega (arith, at))) refl
word_found c id word v first (suc i) (u ∷ words) h below at =
    word_found c id word v (suc first) i words h.1 (omega (arith, below)) (omega (arith, at))

module _ (w : Counter) (bytes : List ℕ) (word : ℕ → ℕ) where
  -- these entries found the table's words, and the records' bytes
  record Finds (own : List Entry) : Type 0 where
    claims : (p : ℕ) → p < places_in w.table → AllByRecursion (FindsWord w.table.arena (claim_word w.table p) (word (claim_word w.table p))) own
    counts : (p : ℕ) → p < places_in w.table → AllByRecursion (FindsWord w.table.arena (count_word w.table p) (word (count_word w.table p))) own
    finds : FindAs w.values.records bytes own

  finds_split : (es fs : List Entry) → Finds (es ++ fs) → Finds es × Finds fs
  finds_split es fs h = (
    record {
      claims = λ p within. (all_split _ es fs (h.claims p within)).0;
      counts = λ p within. (all_split _ es fs (h.counts p within)).0;
      finds = (all_split _ es fs h.finds).0;
    },
    record {
      claims = λ p within. (all_split _ es fs (h.claims p within)).1;
      counts = λ p within. (all_split _ es fs (h.counts p within)).1;
      finds = (all_split _ es fs h.finds).1;
    },
  )

  abbrev stand : ℕ → List Group
  stand = named_below (key_at w bytes word) (λ p. word (count_word w.table p))

  module _ (are : AreValued w.values) (size : length bytes ≡ w.values.records.size) (c : Caller) where
    -- a run's words are those of its places,
    run_found : (k : ℕ) (words : List ℕ) → length words ≡ 2 * run_length w.table k → Finds (run_seen c w k words) → (j : ℕ) → j < run_length w.table k
        → (claim_of words j ≡ word (claim_word w.table (64 * k + j))) × (count_of words j ≡ word (count_word w.table (64 * k + j)))
    run_found k words long h j below =
        let first = claim_word w.table (64 * k) in
        let es = entries_of c (reads w.table.arena first words) in
        let last = entry_of c (Leave w.table.arena) Fine ∷ [] in
        let within : 64 * k + j < places_in w.table = omega (arith, below) in (
          word_found c w.table.arena (claim_word w.table (64 * k + j)) (word (claim_word w.table (64 * k + j))) first (2 * j) words
              (all_split _ es last (h.claims (64 * k + j) within).1).0 (omega (arith, long, below)) (omega arith),
          word_found c w.table.arena (count_word w.table (64 * k + j)) (word (count_word w.table (64 * k + j))) first (2 * j + 1) words
              (all_split _ es last (h.counts (64 * k + j) within).1).0 (omega (arith, long, below)) (omega arith),
        )

    -- and what its claims name are their numbers,
    named_is : (k : ℕ) (words : List ℕ)
        → ((i : ℕ) → i < run_length w.table k
        → (claim_of words i ≡ word (claim_word w.table (64 * k + i))) × (count_of words i ≡ word (count_word w.table (64 * k + i))))
        → (j : ℕ) → j ≤ run_length w.table k → (xs : List Group) (own : List Entry) → ReadsNamed c w words j xs own → FindAs w.values.records bytes own
        → stand (64 * k) ++ xs ≡ stand (64 * k + j)
    named_is k words are_words j most xs own none_read h = append-nil (stand (64 * k)) ∙ ap stand (let e : 64 * k ≡ 64 * k + 0 = omega arith in e)
    named_is k words are_words j most xs own (free {j = i} before none) h =
        let rest = named_is k words are_words i (omega (arith, most)) xs own before h in
        let there = are_words i (omega (arith, most)) in
        let key : key_at w bytes word (64 * k + i) ≡ None = ap (λ o. number_if w.values bytes o) (ap (named_by w.values) (sym there.0) ∙ none) in
        rest ∙ sym (append-nil (stand (64 * k + i)))
        ∙ ap (λ o. stand (64 * k + i) ++ named o (word (count_word w.table (64 * k + i)))) (sym key) ∙ ap stand (let e : suc (64 * k + i) ≡ 64 * k + (i + 1) = omega arith in e)
    named_is k words are_words j most xs own (taken {j = i} {xs = ys} {own = first} before g value more names is read) h =
        let parts = all_split _ first more h in
        let rest = named_is k words are_words i (omega (arith, most)) ys first before parts.0 in
        let there = are_words i (omega (arith, most)) in
        let x = value_by w.values are bytes size c value g.0 more (named_one w.values (claim_of words i) value names) read parts.1 in
        let key : key_at w bytes word (64 * k + i) ≡ Some g.0 =
        ap (λ o. number_if w.values bytes o) (ap (named_by w.values) (sym there.0) ∙ names) ∙ ap Some (sym x) in
        let many : g.1 ≡ word (count_word w.table (64 * k + i)) = is ∙ there.1 in
        sym (append_assoc (stand (64 * k)) ys (g ∷ [])) ∙ ap (λ (us : List Group). us ++ g ∷ []) rest
        ∙ ap (λ n. stand (64 * k + i) ++ (g.0, n) ∷ []) many
        ∙ ap (λ o. stand (64 * k + i) ++ named o (word (count_word w.table (64 * k + i)))) (sym key) ∙ ap stand (let e : suc (64 * k + i) ≡ 64 * k + (i + 1) = omega arith in e)

    -- so that what was read stands there.
    read_is : (k : ℕ) → k ≤ runs_in w.table → (xs : List Group) (own : List Entry) → ReadsRuns c w k xs own → Finds own
        → xs ≡ stand (min (64 * k) (places_in w.table))
    read_is k most xs own no_run h = ap stand (let e : 0 ≡ min (64 * 0) (places_in w.table) = omega arith in e)
    read_is k most xs own (one_run {k = i} {xs = zs} ys first more before now) h =
        let parts = finds_split first more h in
        let rest = read_is i (omega (arith, most)) zs first before parts.0 in
        let run = finds_split (run_seen c w i now.words) now.values (subst Finds now.parts parts.1) in
        let one = named_is i now.words (run_found i now.words now.long run.0) (run_length w.table i) (omega arith) ys now.values now.named run.1.finds in
        ap (λ (us : List Group). us ++ ys) (rest ∙ ap stand (let e : min (64 * i) (places_in w.table) ≡ 64 * i = omega (arith, most) in e)) ∙ one
        ∙ ap stand (let e : 64 * i + run_length w.table i ≡ min (64 * (i + 1)) (places_in w.table) = omega (arith, most) in e)

-- ---- in a history in which nobody else changes it

pub read_stands : ReadAsItStands
read_stands limit now w es c gs can legal others d =
    let r = d.1 in
    let all = by_either (λ e. IsElsewhere w e.call) (c ∷ []) es others (own_elsewhere c w (runs_in w.table) r.found (made_by c es) r.reads, tt) in
    let spared : IsSpared limit now es w.values.records = record {
      legal = legal;
      spared = λ place from below. all_weaker (λ e. IsElsewhere w e.call) (λ e. Spares w.values.records.arena place e.call) (λ e o. o.records place from below) es all;
    } in
    let finds : Finds w (bytes_at_places now w.values.records) (word_in now w.table.arena) (made_by c es) = record {
      claims = λ p within. all_filtered (FindsWord w.table.arena (claim_word w.table p) (word_in now w.table.arena (claim_word w.table p))) (λ e. are_one e.caller c) es
          (left_is_found limit now es w.table.arena (claim_word w.table p) legal
          (all_weaker (λ e. IsElsewhere w e.call) (λ e. LeavesWord w.table.arena (claim_word w.table p) e.call) (λ e o. o.claims p within) es all)).1;
      counts = λ p within. all_filtered (FindsWord w.table.arena (count_word w.table p) (word_in now w.table.arena (count_word w.table p))) (λ e. are_one e.caller c) es
          (left_is_found limit now es w.table.arena (count_word w.table p) legal
          (all_weaker (λ e. IsElsewhere w e.call) (λ e. LeavesWord w.table.arena (count_word w.table p) e.call) (λ e o. o.counts p within) es all)).1;
      finds = spared_found limit now es w.values.records c spared;
    } in
    subst (λ (xs : List Group). AreSummed xs gs)
    (read_is w (bytes_at_places now w.values.records) (word_in now w.table.arena) can.values (length-places now w.values.records) c (runs_in w.table) (omega arith)
    r.found (made_by c es) r.reads finds
    ∙ ap (stand w (bytes_at_places now w.values.records) (word_in now w.table.arena)) (let e : min (64 * runs_in w.table) (places_in w.table) ≡ places_in w.table = omega arith in e))
    r.summed

pub read_alone : ReadByItself
read_alone old new w gs can alone d =
    let m = d.makes in
    let mine = own_elsewhere old.caller w (runs_in w.table) d.does.1.found d.own d.does.1.reads in
    let others : NobodyElseCounts w (old.caller ∷ []) m.all = subst (NobodyElseCounts w (old.caller ∷ [])) (sym (m.alone alone))
    (all_weaker (λ e. IsElsewhere w e.call) (λ e. IsAmong e.caller (old.caller ∷ []) ⊎ IsElsewhere w e.call) (λ e o. inr o) d.own mine) in
    read_stands old.limit old.state w m.all old.caller gs can m.legal others
    (subst (λ (es : List Entry). DoesReadGroups old.caller w (Ok gs) es) (sym m.by_caller) d.does)
