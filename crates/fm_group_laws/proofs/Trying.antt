-- What a count does to words, and what it comes to.
use Rattle.std.proofs.Common.{◌≢◌, ℕ, ◌<◌, List, [], ◌∷◌, refl, sym, subst, ⊎_elim, arith, Result, Ok, Err}
use Rattle.std.{specs.{Prelude.{ℤ}, List.{AllByRecursion, flat_map}}, proofs.{Math.Nat.{mod-lt}}}
use Rattle.fm_base_lists.proofs.Each.{all_both, all_weaker}
use Rattle.fm_base.specs.{declared.{arena_id.ArenaId.{ArenaId}, caller.Caller.{Caller}, refusal.Refusal.{Refusal, TheVariants.{Closed, TableFull, WrongThread}}}}
use Rattle.fm_base.specs.{Calls.{Add, Call, End, Entry, Shut, SwapIf, Write}, Counting.{OnlyAdds}, Untouched.{LeavesOpen, Spares}, Visits.{refused_visit}}
use Rattle.fm_base_laws.specs.{Claims.{OnlyClaims}}
use Rattle.fm_records.specs.{Reads.{read_visit, visits_to}, Words.{Seen}}
use Rattle.fm_group.specs.{Values.{Valued}, Table.{Counter, claim_word, count_word, places_in, tried_at}}
use Rattle.fm_group.specs.Counting.{CountsAt, DoesCount, DoesTries, EndsTries, FindsClaim, PassesBy, PassesFirst, ReadsAndTries, ReadsValue, StopsAt, add_one, claim_try, claims, meets, none_yet, one_more, other, shut, uncounted, unnamed, unread}
use Rattle.fm_group_laws.{specs.{Touching.{IsIdle, Touches, counts, idle, tries}}}

-- ---- which words are touched

abbrev AllTouch : Counter → List Entry → Type 0
AllTouch w own = AllByRecursion (λ e. Touches w e.call) own

reads_idle : (c : Caller) (id : ArenaId) (seen : List Seen) → AllByRecursion (λ e. IsIdle e.call) (flat_map (read_visit c id) seen)
reads_idle c id [] = tt
reads_idle c id (x ∷ seen) = (tt, (tt, (tt, reads_idle c id seen)))

visits_idle : {X : Type 0} (c : Caller) (id : ArenaId) (r : Result X Refusal) (seen : List Seen) → AllByRecursion (λ e. IsIdle e.call) (visits_to c id r seen)
visits_idle c id (Ok x) seen = reads_idle c id seen
visits_idle c id (Err Closed) seen =
    all_both (λ e. IsIdle e.call) (flat_map (read_visit c id) seen) (refused_visit c id) (reads_idle c id seen) (tt, tt)
visits_idle c id (Err r) seen = reads_idle c id seen

-- Reading a value changes no word.
pub value_idle : (c : Caller) (v : Valued) (n : ℕ) (r : Result ℤ Refusal) (own : List Entry) → ReadsValue c v n r own → AllByRecursion (λ e. IsIdle e.call) own
value_idle c v n r own h = subst (λ (es : List Entry). AllByRecursion (λ e. IsIdle e.call) es) (sym h.visits) (visits_idle c v.records.arena r h.seen)

module _ (c : Caller) (w : Counter) where
  idle_touch : (own : List Entry) → AllByRecursion (λ e. IsIdle e.call) own → AllTouch w own
  idle_touch own h = all_weaker (λ e. IsIdle e.call) (λ e. Touches w e.call) (λ e i. idle i) own h

  module _ (n : ℕ) (x : ℤ) where
    module _ (p : ℕ) (within : p < places_in w.table) where
      try_touches : (found : ℕ) → AllTouch w (claim_try c w n p found)
      try_touches found = (idle tt, (tries p n within refl, (idle tt, tt)))

      add_touches : (count : ℕ) → AllTouch w (add_one c w p count)
      add_touches count = (idle tt, (counts p within refl, (idle tt, tt)))

      find_touches : (r : Result ℤ Refusal) (own : List Entry) → FindsClaim c w n x p r own → AllTouch w own
      find_touches r own f = subst (AllTouch w) (sym f.parts)
          (all_both (λ e. Touches w e.call) (claim_try c w n p f.found) f.reads (try_touches f.found) (idle_touch f.reads (value_idle c w.values f.value r f.reads f.read)))

      count_touches : (own : List Entry) → CountsAt c w n x p own → AllTouch w own
      count_touches own (claims count) = (idle tt, (tries p n within refl, (counts p within refl, (idle tt, tt))))
      count_touches own (meets count first f) =
          all_both (λ e. Touches w e.call) first (add_one c w p count) (find_touches (Ok x) first f) (add_touches count)

      pass_touches : (own : List Entry) → PassesBy c w n x p own → AllTouch w own
      pass_touches own (unnamed found some none) = try_touches found
      pass_touches own (other y all apart f) = find_touches (Ok y) all f

      stop_touches : (own : List Entry) → StopsAt c w n x p own → AllTouch w own
      stop_touches own shut = (idle tt, tt)
      stop_touches own (unread all f) = find_touches (Err Closed) all f
      stop_touches own (uncounted first f) =
          all_both (λ e. Touches w e.call) first (refused_visit c w.table.arena) (find_touches (Ok x) first f) (idle tt, tt)

-- ---- the order of places

pub tried_within : (w : Counter) (x : ℤ) (k : ℕ) → 0 < places_in w.table → tried_at w x k < places_in w.table
tried_within w x k some = mod-lt _ some

module _ (c : Caller) (w : Counter) (some : 0 < places_in w.table) (n : ℕ) (x : ℤ) where
  passed_touch : (k : ℕ) (own : List Entry) → PassesFirst c w n x k own → AllTouch w own
  passed_touch k own none_yet = tt
  passed_touch k own (one_more {k = j} first more h q) =
      all_both (λ e. Touches w e.call) first more (passed_touch j first h) (pass_touches c w n x (tried_at w x j) (tried_within w x j some) more q)

  ends_touch : (Ends : ℕ → List Entry → Type 0) → ((p : ℕ) → p < places_in w.table → (own : List Entry) → Ends p own → AllTouch w own)
      → (p : ℕ) (own : List Entry) → EndsTries c w n x Ends p own → AllTouch w own
  ends_touch Ends touch p own h =
      let within : p < places_in w.table = subst (λ (q : ℕ). q < places_in w.table) (sym h.place) (tried_within w x h.k some) in
      subst (AllTouch w) (sym h.parts)
      (all_both (λ e. Touches w e.call) h.before h.last (passed_touch h.k h.before h.passed) (touch p within h.last h.ended))

  tries_touch : (r : Result ℕ Refusal) (own : List Entry) → DoesTries c w n x r own → AllTouch w own
  tries_touch (Ok p) own d = ends_touch (CountsAt c w n x) (λ q within es. count_touches c w n x q within es) p own d
  tries_touch (Err Closed) own d = ends_touch (StopsAt c w n x) (λ q within es. stop_touches c w n x q within es) d.0 own d.1
  tries_touch (Err TableFull) own d = passed_touch (places_in w.table) own d
  tries_touch (Err r) own d = absurd d

module _ (c : Caller) (w : Counter) (some : 0 < places_in w.table) (n : ℕ) where
  read_and_tried : (r : Result ℕ Refusal) (own : List Entry) → ReadsAndTries c w n r own → AllTouch w own
  read_and_tried r own h = subst (AllTouch w) (sym h.parts)
      (all_both (λ e. Touches w e.call) h.reads h.tries (idle_touch c w h.reads (value_idle c w.values n (Ok h.number) h.reads h.read))
      (tries_touch c w some n h.number r h.tries h.tried))

  -- A count touches claims and counts alone.
  pub count_touch : (r : Result ℕ Refusal) (own : List Entry) → DoesCount c w n r own → AllTouch w own
  count_touch (Ok p) own d = read_and_tried (Ok p) own d.1
  count_touch (Err WrongThread) own d = subst (AllTouch w) (sym d.1) tt
  count_touch (Err Closed) own d = ⊎_elim
      (λ (h : ReadsValue c w.values n (Err Closed) own). idle_touch c w own (value_idle c w.values n (Err Closed) own h))
      (λ (h : ReadsAndTries c w n (Err Closed) own). read_and_tried (Err Closed) own h) d.1
  count_touch (Err TableFull) own d = read_and_tried (Err TableFull) own d.1
  count_touch (Err r) own d = absurd d

-- ---- what such entries leave

module _ (w : Counter) where
  idle_claims : (id : ArenaId) (word : ℕ) (call : Call) → IsIdle call → OnlyClaims id word call
  idle_claims id word (Write a k v) i = absurd i
  idle_claims id word (SwapIf a k old new) i = absurd i
  idle_claims id word (Add a k n) i = absurd i
  idle_claims id word call i = tt

  idle_adds : (id : ArenaId) (word : ℕ) (call : Call) → IsIdle call → OnlyAdds id word call
  idle_adds id word (Write a k v) i = absurd i
  idle_adds id word (SwapIf a k old new) i = absurd i
  idle_adds id word (Add a k n) i = absurd i
  idle_adds id word call i = tt

  idle_spares : (id : ArenaId) (place : ℕ) (call : Call) → IsIdle call → Spares id place call
  idle_spares id place (Write a k v) i = absurd i
  idle_spares id place (SwapIf a k old new) i = absurd i
  idle_spares id place (Add a k n) i = absurd i
  idle_spares id place call i = tt

  apart_words : (p q : ℕ) → count_word w.table p ≢ claim_word w.table q
  apart_words p q e = omega (arith, e)

  -- a claim's word is only claimed
  pub touch_claims : (q : ℕ) (call : Call) → Touches w call → OnlyClaims w.table.arena (claim_word w.table q) call
  touch_claims q call (idle i) = idle_claims w.table.arena (claim_word w.table q) call i
  touch_claims q call (tries p n within is) =
      subst (OnlyClaims w.table.arena (claim_word w.table q)) (sym is) (λ at. (refl, λ none. absurd (omega (arith, none))))
  touch_claims q call (counts p within is) =
      subst (OnlyClaims w.table.arena (claim_word w.table q)) (sym is) (λ at. apart_words p q at.1)

  -- a count's is only added to
  pub touch_adds : (q : ℕ) (call : Call) → Touches w call → OnlyAdds w.table.arena (count_word w.table q) call
  touch_adds q call (idle i) = idle_adds w.table.arena (count_word w.table q) call i
  touch_adds q call (tries p n within is) =
      subst (OnlyAdds w.table.arena (count_word w.table q)) (sym is) (λ at. apart_words q p (sym at.1))
  touch_adds q call (counts p within is) = subst (OnlyAdds w.table.arena (count_word w.table q)) (sym is) tt

  -- and no byte of another arena changes
  pub touch_spares : (id : ArenaId) (place : ℕ) → w.table.arena ≢ id → (call : Call) → Touches w call → Spares id place call
  touch_spares id place apart call (idle i) = idle_spares id place call i
  touch_spares id place apart call (tries p n within is) = subst (Spares id place) (sym is) (λ at. absurd (apart at.0))
  touch_spares id place apart call (counts p within is) = subst (Spares id place) (sym is) (λ at. apart at.0)

-- ---- nobody closes

idle_open : (id : ArenaId) (call : Call) → IsIdle call → LeavesOpen id call
idle_open id (Shut a) i = absurd i
idle_open id (End a) i = absurd i
idle_open id call i = tt

-- No arena is closed.
pub touch_open : (w : Counter) (id : ArenaId) (call : Call) → Touches w call → LeavesOpen id call
touch_open w id call (idle i) = idle_open id call i
touch_open w id call (tries p n within is) = subst (LeavesOpen id) (sym is) tt
touch_open w id call (counts p within is) = subst (LeavesOpen id) (sym is) tt
