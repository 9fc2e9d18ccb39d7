-- A set of closes through the calls of its pass.
use Rattle.std.proofs.Common.{◌≡◌, ◌≢◌, ◌+◌, Bool, true, false, if◌then◌else◌, List, [], ◌∷◌, ◌++◌, length, refl, ap, sym, ◌∙◌, subst, Some, arith, inl}
use Rattle.std.{specs.{Prelude.{Ok, Err}, List.{AllByRecursion}}, proofs.lemmas.List.{append-nil, Elements.{All-append, All-nil}}}
use Rattle.fm_base.specs.{declared.{arena_id.ArenaId.{ArenaId}, caller.Caller.{Caller}, refusal.Refusal.{Refusal}}, Calls.{Shut, End, Fine, Entry, entry_of}, Finds.{Close, Sweep, Rest}, Histories.{made_by}}
use Rattle.fm_rule_facts.specs.{Views.{View, In, IsSound}, Closes.{walk_of, passed_of, dropped}}
use Rattle.fm_rule.specs.declared.pool.Pool.{Pool}
use Rattle.fm_rule_calls.{specs.Kept.{Goes, HasEnded, HasNoWords}, proofs.Going.{goes_then, goes_none, known_on, lasts_on}}
use Rattle.fm_base_machine.proofs.Putting.{same_id-not}
use Rattle.fm_gate.{specs.{Needs.{IsOutside}}, proofs.Outside.{made_on}}
use Rattle.fm_close.specs.{declared.shutting.Shutting.{Shutting}, CloseLaws.{StandsBy, StandTogether}, Does.{IsBack, AreBacks}}
use Rattle.fm_close.specs.Learnt.{IsUnderWay, IsToSweep, AfterShut, AfterSweep, CanWalk, CanSweep}
use Rattle.fm_close.proofs.{Lasting.{passed_of-dropped}, Together.{all_at, all_put, together}}
use Rattle.fm_async.specs.{declared.waiting.Waiting.{Waiting}, Visits.{entries_by, ClosesBy, sweeps_by, Visited}}
use Rattle.fm_async.specs.{Sets.{HasEntries, IsSet, SweepsAll, unfinished}, Polls.{Polls}}
use Rattle.fm_async.proofs.{Counts.{length-dropped, unfinished-among, length-among, one_left}, Entries.{entries_by_end, entries_stay, in_later, in_own}}

-- ---- one among others

stand_at : (p : View) (us after : List Shutting) (s : Shutting) → StandTogether p (us ++ s ∷ after) → StandsBy s.ended p s
stand_at p [] after s t = t.0
stand_at p (u ∷ us) after s t = stand_at p us after s t.2

all_snoc : {A : Type 0} (P : A → Type 0) (xs : List A) (y : A) → AllByRecursion P xs → P y → AllByRecursion P (xs ++ y ∷ [])
all_snoc P [] y h n = (n, tt)
all_snoc P (x ∷ xs) y h n = (h.0, all_snoc P xs y h.1 n)

all_front : {A : Type 0} (P : A → Type 0) (xs ys : List A) → AllByRecursion P (xs ++ ys) → AllByRecursion P xs
all_front P [] ys h = tt
all_front P (x ∷ xs) ys h = (h.0, all_front P xs ys h.1)

all_map : {A : Type 0} (P Q : A → Type 0) (xs : List A) → ((x : A) → P x → Q x) → AllByRecursion P xs → AllByRecursion Q xs
all_map P Q [] f h = tt
all_map P Q (x ∷ xs) f h = (f x h.0, all_map P Q xs f h.1)

-- ---- visits of one arena's marks

closes_beside : (b : Bool) (a i : ArenaId) (cs ds : List Close) → a ≢ i → ClosesBy b a cs ds → passed_of ds i ≡ passed_of cs i
closes_beside true a i cs ds n e = ap (λ (xs : List Close). passed_of xs i) e ∙ passed_of-dropped cs a i n
closes_beside false a i cs ds n e =
    sym (passed_of-dropped ds a i n) ∙ (ap (λ (xs : List Close). passed_of xs i) e ∙ passed_of-dropped cs a i n)

sweeps_beside : (b : Bool) (a i : ArenaId) (cs : List Sweep) → a ≢ i → passed_of (sweeps_by b a cs) i ≡ passed_of cs i
sweeps_beside true a i cs n = ap (λ t. if t then Some 0 else passed_of cs i) (same_id-not a i n)
sweeps_beside false a i cs n = refl

module _ {pool : Pool} {p q : View} {s t : Shutting} (v : Visited pool p q s t) where
  sweeps_are : q.sweeps ≡ sweeps_by t.ended s.arena p.sweeps
  sweeps_are = ap (λ (x : Rest). x.sweeps) v.rest

  -- The close of another arena stands where it stood.
  beside : (b : Bool) (u : Shutting) → s.arena ≢ u.arena → StandsBy b p u → StandsBy b q u
  beside true u n w = record {
    maker = w.maker ∙ sym (made_on v.goes);
    ended = w.ended;
    at = ap (λ (xs : List Sweep). passed_of xs u.arena) sweeps_are ∙ (sweeps_beside t.ended s.arena u.arena p.sweeps n ∙ w.at);
  }
  beside false u n w = record {
    maker = w.maker ∙ sym (made_on v.goes);
    unfinished = w.unfinished;
    known = known_on v.goes u.arena w.known;
    at = closes_beside t.ended s.arena u.arena p.closes q.closes n v.closes ∙ w.at;
    low = rw v.goes.same_shape w.low;
  }

  others : (us : List Shutting) → AllByRecursion (λ u. u.arena ≢ s.arena) us → StandTogether p us → StandTogether q us
  others [] n h = tt
  others (u ∷ us) n h = (beside u.ended u (λ e. n.0 (sym e)) h.0, h.1, others us n.1 h.2)

  -- It stands itself, at its place.
  stand_on : (us after : List Shutting) → StandTogether p (us ++ s ∷ after) → StandTogether q (us ++ t ∷ after)
  stand_on [] after h = (
    v.stands,
    subst (λ (a : ArenaId). AllByRecursion (λ u. u.arena ≢ a) after) (sym v.arena) h.1,
    others after h.1 h.2,
  )
  stand_on (u ∷ us) after h =
      let far : s.arena ≢ u.arena = all_at (λ (x : Shutting). x.arena ≢ u.arena) us after s h.1 in (
        beside u.ended u far h.0,
        all_put (λ (x : Shutting). x.arena ≢ u.arena) us after s t (λ e. far (sym v.arena ∙ e)) h.1,
        stand_on us after h.2,
      )

  -- Its entries are there, with its End where it has ended.
  its_entries : HasEntries p s → HasEntries q t
  its_entries h = entries_by_end t.ended refl v.goes.sound v.stands
      (subst (λ (a : ArenaId). In (entry_of q.caller (Shut a) Fine) (made_by q.caller q.seen)) (sym v.arena) (in_later v.goes (Shut s.arena) Fine h.shut))
      (λ e. in_own v.goes (End t.arena) Fine (subst (λ (es : List Entry). In (entry_of p.caller (End t.arena) Fine) es)
      (λ j. entries_by (sym e j) p.caller s.arena) (inl (λ j. entry_of p.caller (End (v.arena j)) Fine))))

  entries_on : (us after : List Shutting) → StandTogether q (us ++ t ∷ after) → AllByRecursion (HasEntries p) (us ++ s ∷ after)
      → AllByRecursion (HasEntries q) (us ++ t ∷ after)
  entries_on [] after st h = (its_entries h.0, stay after st.2 h.1)
    where
      stay : (us : List Shutting) → StandTogether q us → AllByRecursion (HasEntries p) us → AllByRecursion (HasEntries q) us
      stay [] st h = tt
      stay (u ∷ us) st h = (entries_stay v.goes st.0 h.0, stay us st.2 h.1)
  entries_on (u ∷ us) after st h = (entries_stay v.goes st.0 h.0, entries_on us after st.2 h.1)

  -- It has one close fewer, and one arena more to sweep, where the arena has ended.
  count_closes : s.ended ≡ false → IsUnderWay p s → length q.closes + one_left s.ended ≡ length p.closes + one_left t.ended
  count_closes e w = go t.ended v.closes v.stands
    where
      before : length (dropped s.arena p.closes) + 1 ≡ length p.closes
      before = length-dropped p.closes s.arena s.next w.at

      one : one_left s.ended ≡ 1
      one = ap one_left e

      go : (b : Bool) → ClosesBy b s.arena p.closes q.closes → StandsBy b q t → length q.closes + one_left s.ended ≡ length p.closes + one_left b
      go true c st = let l = ap length c in let o = one in let d = before in omega arith
      go false c st =
          let after : length (dropped s.arena q.closes) + 1 ≡ length q.closes = length-dropped q.closes s.arena t.next (ap (passed_of q.closes) (sym v.arena) ∙ st.at) in
          let l = ap length c in let o = one in let d = before in omega arith

  count_sweeps : s.ended ≡ false → length q.sweeps + one_left t.ended ≡ length p.sweeps + one_left s.ended
  count_sweeps e = let l = ap length sweeps_are in let o = ap one_left e in let g = go t.ended in omega arith
    where
      go : (b : Bool) → length (sweeps_by b s.arena p.sweeps) + one_left b ≡ length p.sweeps + 1
      go true = omega arith
      go false = omega arith

  -- The set stands.
  pub visited_set : (us after : List Shutting) → s.ended ≡ false → IsSet pool p (us ++ s ∷ after) → IsSet pool q (us ++ t ∷ after)
  visited_set us after e set =
      let stand = stand_on us after set.stand in
      let w : IsUnderWay p s = subst (λ b. StandsBy b p s) e (stand_at p us after s set.stand) in
      record {
        sound = v.goes.sound;
        outside = v.outside;
        stand = stand;
        mine = entries_on us after stand set.mine;
        closes =
            let c = count_closes e w in let m = unfinished-among us after s in let n = unfinished-among us after t in let h = set.closes in
            omega arith;
        sweeps =
            let c = count_sweeps e in let m = unfinished-among us after s in let n = unfinished-among us after t in let h = set.sweeps in
            let k = length-among us after s in let l = length-among us after t in omega arith;
      }

-- ---- one of them is polled

-- Its next mark is to be visited, where it hasn't ended.
pub can_walk_at : {pool : Pool} {p : View} (us after : List Shutting) (s : Shutting) → IsSet pool p (us ++ s ∷ after) → s.ended ≡ false → CanWalk pool p s
can_walk_at {p = p} us after s set e = record { outside = set.outside; walks = subst (λ b. StandsBy b p s) e (stand_at p us after s set.stand) }

pub polled_set : {pool : Pool} {p q : View} {v w : Waiting} (us after : List Shutting) → Polls pool p q v w → IsSet pool p (us ++ v.close ∷ after)
    → IsSet pool q (us ++ w.close ∷ after)
polled_set {pool = pool} {p = p} {q = q} {v = v} {w = w} us after m set = go v.close.ended refl
  where
    go : (b : Bool) → v.close.ended ≡ b → IsSet pool q (us ++ w.close ∷ after)
    go true e = let none = m.none e in subst (λ (x : View × Shutting). IsSet pool x.0 (us ++ x.1 ∷ after)) (λ j. (sym none.0 j, sym none.1 j)) set
    go false e = visited_set (m.visits e).visited us after e set

-- ---- one more is begun

-- The first of them may come last.
stand_last : (p : View) (ss : List Shutting) (s : Shutting) → StandTogether p (s ∷ ss) → StandTogether p (ss ++ s ∷ [])
stand_last p [] s h = h
stand_last p (u ∷ us) s h = (h.2.0, all_snoc (λ (x : Shutting). x.arena ≢ u.arena) us s h.2.1 (λ e. h.1.0 (sym e)), stand_last p us s (h.0, h.1.1, h.2.2))

entries_all : {p q : View} {own : List Entry} (us : List Shutting) → Goes p q own → StandTogether q us → AllByRecursion (HasEntries p) us
    → AllByRecursion (HasEntries q) us
entries_all [] g st h = tt
entries_all (u ∷ us) g st h = (entries_stay g st.0 h.0, entries_all us g st.2 h.1)

module _ {pool : Pool} {p q : View} {id : ArenaId} {s : Shutting} (h : AfterShut pool p q id (Ok s)) where
  begun_arena : s.arena ≡ id
  begun_arena = ap (λ (x : Shutting). x.arena) h.did.does.2

  begun_entries : HasEntries q s
  begun_entries = entries_by_end false h.walks.unfinished h.did.goes.sound h.walks
      (in_own h.did.goes (Shut s.arena) Fine (subst (λ (es : List Entry). In (entry_of p.caller (Shut s.arena) Fine) es) (sym h.did.does.3)
      (inl (λ j. entry_of p.caller (Shut (begun_arena j)) Fine))))
      (λ e. absurd (cc))

  pub added_set : (ss : List Shutting) → IsSet pool p ss → IsSet pool q (ss ++ s ∷ [])
  added_set ss set =
      let first = together.at_shut pool p q id s ss h set.stand in
      let n = unfinished-among ss [] s in
      let o : one_left s.ended ≡ 1 = ap one_left h.walks.unfinished in
      let c : length q.closes ≡ length (walk_of id 0 ∷ p.closes) = ap (λ (x : Rest). length x.closes) h.did.rest in
      let w : length q.sweeps ≡ length p.sweeps = ap (λ (x : Rest). length x.sweeps) h.did.rest in
      record {
        sound = h.did.goes.sound;
        outside = h.outside;
        stand = stand_last q ss s first;
        mine = all_snoc (HasEntries q) ss s (entries_all ss h.did.goes first.2 set.mine) begun_entries;
        closes = let d = set.closes in omega arith;
        sweeps = let d = set.sweeps in let l = length-among ss [] s in omega arith;
      }

-- A refusal leaves it.
pub refused_set : {pool : Pool} {p q : View} {id : ArenaId} {r : Refusal} (ss : List Shutting) → AfterShut pool p q id (Err r) → IsSet pool p ss
    → IsSet pool q ss
refused_set {pool = pool} {p = p} {q = q} {id = id} {r = r} ss h set =
    let stand = together.at_refusal pool p q id r ss h set.stand in
    record {
      sound = h.did.goes.sound;
      outside = h.outside;
      stand = stand;
      mine = entries_all ss h.did.goes stand set.mine;
      closes = ap (λ (x : Rest). length x.closes) h.did.rest ∙ set.closes;
      sweeps = let w : length q.sweeps ≡ length p.sweeps = ap (λ (x : Rest). length x.sweeps) h.did.rest in let d = set.sweeps in omega arith;
    }

-- ---- all are swept

-- Nothing is swept of none.
pub sweeps_none : {p : View} → IsSound p → SweepsAll p p []
sweeps_none {p = p} sound = record {
  did = record { own = []; does = All-nil _; goes = goes_none sound; rest = refl };
  ended = tt;
  no_words = tt;
  lasts = lasts_on (goes_none sound);
}

-- The last of them is swept, and then the others.
pub sweeps_then : {pool : Pool} {p q r : View} (us : List Shutting) (s : Shutting) → AfterSweep pool p q s.arena → SweepsAll q r us
    → SweepsAll p r (us ++ s ∷ [])
sweeps_then {p = p} {q = q} {r = r} us s h w = record {
  did = record {
    own = h.did.own ++ w.did.own;
    does = All-append (IsBack p.caller) h.did.own w.did.own h.did.does
        (subst (λ (c : Caller). AreBacks c w.did.own) h.did.goes.same_caller w.did.does);
    goes = goes_then h.did.goes w.did.goes;
    rest = w.did.rest ∙ ap (λ (x : Rest). record x { sweeps = r.sweeps }) h.did.rest;
  };
  ended = all_snoc (λ (x : Shutting). HasEnded r x.arena) us s w.ended (w.lasts.ended s.arena h.ended);
  no_words = all_snoc (λ (x : Shutting). HasNoWords r x.arena) us s w.no_words (w.lasts.no_words s.arena h.ended h.no_words);
  lasts = lasts_on (goes_then h.did.goes w.did.goes);
}

-- The set without the one that was swept.
pub swept_set : {pool : Pool} {p q : View} (us : List Shutting) (s : Shutting) → s.ended ≡ true → IsSet pool p (us ++ s ∷ []) → AfterSweep pool p q s.arena
    → IsSet pool q us
swept_set {pool = pool} {p = p} {q = q} us s e set h =
    let stand : StandTogether q us = subst (StandTogether q) (append-nil us) (together.at_sweep pool p q s us [] h set.stand) in
    let to : IsToSweep p s = subst (λ b. StandsBy b p s) e (stand_at p us [] s set.stand) in
    let d = length-dropped p.sweeps s.arena 0 to.at in
    let w : length q.sweeps ≡ length (dropped s.arena p.sweeps) = ap (λ (x : Rest). length x.sweeps) h.did.rest in
    let c : length q.closes ≡ length p.closes = ap (λ (x : Rest). length x.closes) h.did.rest in
    let n = unfinished-among us [] s in
    let o : one_left s.ended ≡ 0 = ap one_left e in
    let l = length-among us [] s in
    record {
      sound = h.did.goes.sound;
      outside = h.outside;
      stand = stand;
      mine = entries_all us h.did.goes stand (all_front (HasEntries p) us (s ∷ []) set.mine);
      closes = let k = set.closes in omega arith;
      sweeps = let k = set.sweeps in omega arith;
    }

-- The last of closes that have all ended can be swept.
pub can_sweep_last : {pool : Pool} {p : View} (us : List Shutting) (s : Shutting) → s.ended ≡ true → IsSet pool p (us ++ s ∷ []) → CanSweep pool p s
can_sweep_last {p = p} us s e set = record { outside = set.outside; sweep = subst (λ b. StandsBy b p s) e (stand_at p us [] s set.stand) }

-- Where none is unfinished, the last one isn't, and neither are the others.
pub last_ended : (us : List Shutting) (s : Shutting) → unfinished (us ++ s ∷ []) ≡ 0 → (s.ended ≡ true) × (unfinished us ≡ 0)
last_ended us s e = let n = unfinished-among us [] s in go s.ended (omega arith) (omega arith)
  where
    go : (b : Bool) → one_left b ≡ 0 → unfinished us ≡ 0 → (b ≡ true) × (unfinished us ≡ 0)
    go true o u = (refl, u)
    go false o u = absurd (cc)
