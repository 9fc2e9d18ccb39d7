-- What a crew groups of records in a pool, that nothing but memory is wanting, and what was read then.
use Rattle.std.proofs.Common.{◌≡◌, ◌≢◌, ℕ, ◌+◌, ◌*◌, ◌<◌, ◌≤◌, List, [], ◌∷◌, Result, Ok, Err, IfErr, IfOk, refl, ap, sym, ◌∙◌, subst, inl, arith}
use Rattle.std.{specs.{Prelude.{◌⊎◌}, List.{AllByRecursion}}, proofs.lemmas.{Result.{IfOk-weaker}}}
use Rattle.fm_base.specs.declared.{arena_id.ArenaId.{ArenaId}, caller.Caller.{Caller}, refusal.Refusal.{Refusal, TheVariants.{WrongThread, Closed, NoPass, Memory, TableFull}}}
use Rattle.fm_base.specs.{Calls.{Call, Entry, Fine, Leave, Reply, entry_of}, Histories.{made_by}, Visits.{entries_of, visit}}
use Rattle.fm_gate.specs.{Needs.{IsOutside}}
use Rattle.fm_base_lists.{specs.Among.{IsAmong}, proofs.Each.{all_both, all_weaker}}
use Rattle.fm_rule_facts.specs.{Views.{View, IsSound}}
use Rattle.fm_records.specs.{Reads.{IsWordOf}}
use Rattle.fm_rule.specs.{declared.pool.Pool.{Pool}, Finishing.{FinishedView}}
use Rattle.fm_segment.specs.Region.{Region}
use Rattle.fm_group_lists.specs.Groups.{AreGroups, Group}
use Rattle.fm_group.specs.{Table.{Counter, places_in}, Values.{Valued, all_numbers, count_of, valued}}
use Rattle.fm_group_laws.specs.Shares.{IsElsewhere, NobodyElseCounts}
use Rattle.fm_group_crew.specs.Grouped.{CanGroupWith, GroupedWith, IsAct, IsFree, IsReadByOne, OnlyVisits, adds, closed, no_more, reads_table, reads_value, swaps, visits, words_of}
use Rattle.fm_workers.specs.Query.{IsReadByCrew}
use Rattle.fm_workers_crew.specs.Crew.{callers}
use Rattle.fm_top_pooled.specs.{Asking.{HasPasses, KeepsHistory}, Shown.{AreRead}, Stocked.{bytes_in_pool}}
use Rattle.fm_top_pooled.specs.Grouped.{CanGroup, IsWordOfValue, ReadsValues, ShowsValues, values_of}
use Rattle.fm_top_pooled.proofs.Crews.{AllTouch, Touches, bytes_stay, crew_touches, records_spared, stays_alive, stocked_still}
use Rattle.fm_top_pooled.proofs.{Shows.{by_other, is_whole, never_wanting, pooled_is, region_is, shows}, Tallies.{not_confined}, Unshut.{AllCome, never_closed}}

-- ---- what the crew does

-- a word of the table may be changed
abbrev MayChange : Counter → ArenaId → ℕ → Type 0
MayChange w a word = (a ≡ w.table.arena) × IsWordOf w.table word

act_touches : (w : Counter) (id : ArenaId) (call : Call) → IsAct w id call → Touches (MayChange w) call
act_touches w id call (reads_value word is) = tt
act_touches w id call (reads_table word is) = tt
act_touches w id call (swaps word old new is) = (refl, is)
act_touches w id call (adds word n is) = (refl, is)

acts_touch : (w : Counter) (c : Caller) (id : ArenaId) (acts : List (Call × Reply)) → AllByRecursion (λ a. IsAct w id a.0) acts
    → AllTouch (MayChange w) (entries_of c acts)
acts_touch w c id [] h = tt
acts_touch w c id (a ∷ acts) h = (act_touches w id a.0 h.0, acts_touch w c id acts h.1)

visits_touch : (w : Counter) (c : Caller) (own : List Entry) → OnlyVisits w c own → AllTouch (MayChange w) own
visits_touch w c own no_more = tt
visits_touch w c own (closed id rest either more) = (tt, visits_touch w c rest more)
visits_touch w c own (visits id acts rest are more) =
    all_both (λ e. Touches (MayChange w) e.call) (visit c id acts) rest
    (tt, all_both (λ e. Touches (MayChange w) e.call) (entries_of c acts) (entry_of c (Leave id) Fine ∷ []) (acts_touch w c id acts are) (tt, tt))
    (visits_touch w c rest more)

-- ---- a table beside the records

module _ {pool : Pool} {p : View} {w : Counter} (can : CanGroup pool p w) where
  pub can_group_with : (threads : ℕ) → 0 < threads → threads ≤ 16 → CanGroupWith pool p w threads
  can_group_with threads some few = record {
    outside = can.stocked.outside;
    records = can.stocked.known;
    table = can.beside.known;
    some = some;
    few = few;
  }

  starts : w.table.first ≡ 0
  starts = ap (λ (r : Region). r.first) can.beside.all

  -- a word of the table lies within it
  within : (a : ArenaId) (word : ℕ) → MayChange w a word → (a ≡ w.table.arena) × (8 * word + 8 ≤ w.table.first + w.table.size)
  within a word may =
      let below = may.1.below in
      let size = can.table.size_is in
      (may.0, omega (arith, starts, size, below))

  apart : (a : ArenaId) (word : ℕ) → MayChange w a word → a ≢ w.values.records.arena
  apart a word may is = can.beside.other (sym may.0 ∙ is)

  free : IsFree p w
  free k below = (can.beside.zero _, can.beside.zero _)

  enough : count_of w.values ≤ places_in w.table
  enough =
      let size = can.table.size_is in
      let twice = can.table.least.1 in
      omega (arith, size, twice)

  -- the values, as their words name them
  values_are : values_of w.values.path (bytes_in_pool p w.values.records) w.values.records.arena ≡ w.values
  values_are = ap (λ (s : Region). valued w.values.path s) (region_is can.stocked)

  -- ---- a crew's groups

  module _ {q : View} {threads : ℕ} {r : Result (List Group) Refusal} (g : GroupedWith threads p q w r) where
    sound : IsSound q
    sound = g.still_sound can.stocked.sound

    alone : AllByRecursion (λ e. IsAmong e.caller (callers g.crew.crew)) g.crew.more
    alone = g.crew.alone (is_whole can.stocked)

    touch : AllTouch (MayChange w) g.crew.more
    touch = crew_touches (MayChange w) (callers g.crew.crew) g.crew.more alone
        (all_weaker (λ (c : Caller). OnlyVisits w c (made_by c g.crew.more)) (λ (c : Caller). AllTouch (MayChange w) (made_by c g.crew.more))
        (λ c v. visits_touch w c (made_by c g.crew.more) v) (callers g.crew.crew) g.visits)

    -- neither arena is found closed
    all_come : AllCome w g.crew.more
    all_come = (
      (stays_alive (MayChange w) can.stocked g.crew sound touch w.values.records.arena can.stocked.known.arena can.stocked.alive).1,
      (stays_alive (MayChange w) can.stocked g.crew sound touch w.table.arena can.beside.known.arena can.beside.alive).1,
    )

    nobody_else : NobodyElseCounts w (callers g.crew.crew) g.crew.more
    nobody_else =
        all_weaker (λ (e : Entry). IsAmong e.caller (callers g.crew.crew)) (λ (e : Entry). IsAmong e.caller (callers g.crew.crew) ⊎ IsElsewhere w e.call)
        (λ e i. inl i) g.crew.more alone

  module _ {q : View} {threads : ℕ} where
    -- only memory can be wanting
    pub only_wants : (r : Result (List Group) Refusal) → GroupedWith threads p q w r → HasPasses p threads → IfErr r (λ e. e ≡ Memory)
    only_wants (Ok gs) g passes = tt
    only_wants (Err WrongThread) g passes = absurd (not_confined can.stocked can.beside g.ends.0)
    only_wants (Err NoPass) g passes = absurd (never_wanting threads can.stocked passes (g.wanting (is_whole can.stocked) refl))
    only_wants (Err Closed) g passes = absurd (never_closed w (all_come g) g.ends.1)
    only_wants (Err TableFull) g passes = absurd (g.full free (nobody_else g) enough refl)
    only_wants (Err Memory) g passes = refl
    only_wants (Err r) g passes = absurd g.ends

    -- the groups are those of all numbers in the records
    are_groups : (gs : List Group) → GroupedWith threads p q w (Ok gs) → AreGroups (all_numbers w.values.path (bytes_in_pool p w.values.records)) gs
    are_groups gs g =
        subst (λ (bs : List ℕ). AreGroups (all_numbers w.values.path bs) gs) (sym (pooled_is p w.values.records)) (g.value free (nobody_else g))

    one_read : {gs : List Group} (g : GroupedWith threads p q w (Ok gs)) (n word : ℕ) → n < count_of w.values → IsAmong word (words_of w.values n)
        → IsReadByCrew w.values.records (callers g.crew.crew) g.crew.more word
    one_read g n word below has =
        let one : IsReadByOne w.values (callers g.crew.crew) g.crew.more word = g.read n word below has in
        record { caller = one.caller; among = one.among; read = one.read }

    read_values : (gs : List Group) → GroupedWith threads p q w (Ok gs) → IsOutside pool q → ReadsValues pool p q w.values
    read_values gs g outside = record {
      before = can.stocked;
      stocked = stocked_still (MayChange w) can.stocked g.crew (sound g) (touch g) outside g.known w.table.arena (w.table.first + w.table.size)
          can.beside.known.given within;
      same = bytes_stay (MayChange w) can.stocked g.crew (sound g) (touch g) apart;
      more = g.crew.more;
      seen = g.crew.seen;
      spared = records_spared (MayChange w) can.stocked g.crew (sound g) (touch g) apart;
      read = λ word asks.
          by_other p w.values.records (callers g.crew.crew) g.crew.more g.crew.fresh word
          (one_read g asks.ordinal word (subst (λ (v : Valued). asks.ordinal < count_of v) values_are asks.below)
          (subst (λ (v : Valued). IsAmong word (words_of v asks.ordinal)) values_are asks.has));
    }

    -- so it is where they were handed on
    module _ {E : Type 0} {found : Result (List Group) Refusal} (result : Result (List Group) E) (g : GroupedWith threads p q w found)
        (handed : IfOk result (λ gs. found ≡ Ok gs)) where
      as_found : {P : List Group → Type 0} → ((gs : List Group) → GroupedWith threads p q w (Ok gs) → P gs) → IfOk result P
      as_found says = IfOk-weaker result _ _ (λ gs is. says gs (subst (λ r. GroupedWith threads p q w r) is g)) handed

      pub hands_groups : IfOk result (AreGroups (all_numbers w.values.path (bytes_in_pool p w.values.records)))
      hands_groups = as_found are_groups

      pub hands_read : IsOutside pool q → IfOk result (λ _. ReadsValues pool p q w.values)
      hands_read outside = as_found (λ gs grouped. read_values gs grouped outside)

-- ---- what is shown

pub shows_values : {pool : Pool} {p q : View} {v : Valued} {f : FinishedView} (bytes : List ℕ) → ReadsValues pool p q v → KeepsHistory q f
    → bytes_in_pool p v.records ≡ bytes → ShowsValues f v.path bytes
shows_values {v = v} bytes reads kept are =
    shows bytes (IsWordOfValue v.path bytes) reads.more reads.before reads.stocked kept reads.seen are (reads.same ∙ are) reads.spared
    (subst (λ (bs : List ℕ). AreRead reads.more (IsWordOfValue v.path bs) v.records.arena) are reads.read)
