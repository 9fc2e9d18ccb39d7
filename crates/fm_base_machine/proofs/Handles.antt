-- A legal history counts the handles of each arena.
use Rattle.std.proofs.Common.{◌≡◌, ◌≢◌, ℕ, ◌+◌, ◌<◌, Bool, true, List, [], ◌∷◌, ◌++◌, refl, ap, sym, ◌∙◌, subst, arith}
use Rattle.fm_base.specs.{declared.{caller.Caller.{Caller}, arena_id.ArenaId.{ArenaId}}, Arenas.{Life, Alive, Closing, Ended, State, arena_of, has_arena}}
use Rattle.fm_base.specs.Calls.{Call, Open, Enter, Read, Write, SwapIf, Add, Allocate, Leave, Hold, Unhold, Shut, End, Lend, Back, Reply, Fine, Entry}
use Rattle.fm_base.{specs.{Machine.{MayCall, reply_to, shut_reply, after}, Histories.{IsLegal, state_after}}, proofs.Growing.{there_by_life}}
use Rattle.fm_base.proofs.Making.{IsLegal-split}
use Rattle.fm_base_machine.specs.{Functions.{Stage, Fresh, Lives, Closes, Over, stage_of, Machine, Depicts, moved}, Steps.{opening, moved_by}}
use Rattle.fm_base_machine.{specs.Handles.{one_alive, handles_of, all_taken, all_given, AreLeft, HandlesAreCounted, LastHandleEnds}, proofs.Allowing.{is_alive}}
use Rattle.fm_base_machine.proofs.{Depicting.{always, depicts_none, depicts_by}, Handling.{hold_alive, shut_alive, Counts, handled, OnlyAlive, only_alive}}

-- ---- legal calls count

module _ (limit : ℕ) (s : State) (t : Machine) (d : Depicts limit s t) where
  -- what is alive in the list lives
  lives : (id : ArenaId) → (arena_of s id).life ≡ Alive → t.life id ≡ Lives
  lives id l =
      let h : has_arena s id ≡ true = there_by_life s id (λ o. let c : Alive ≡ Ended = sym l ∙ o in absurd (cc)) in
      d.life id ∙ (λ j. stage_of (h j) (l j))

  closes : (id : ArenaId) → (arena_of s id).life ≡ Closing → t.life id ≡ Closes
  closes id l =
      let h : has_arena s id ≡ true = there_by_life s id (λ o. let c : Closing ≡ Ended = sym l ∙ o in absurd (cc)) in
      d.life id ∙ (λ j. stage_of (h j) (l j))

  -- a legal call counts
  counts_in : (c : Caller) (call : Call) (reply : Reply) → MayCall s c call → reply ≡ reply_to limit s call → Counts t call reply
  counts_in c (Open id) reply m r = d.life id ∙ ap (λ (b : Bool). stage_of b (arena_of s id).life) m.0
  counts_in c (Enter id) reply m r = tt
  counts_in c (Read id word) reply m r = tt
  counts_in c (Write id word value) reply m r = tt
  counts_in c (SwapIf id word old new) reply m r = tt
  counts_in c (Add id word n) reply m r = tt
  counts_in c (Allocate id size align) reply m r = tt
  counts_in c (Leave id) reply m r = tt
  counts_in c (Hold id) Fine m r = lives id (hold_alive (arena_of s id).life (arena_of s id).holds r)
  counts_in c (Hold id) reply m r = tt
  counts_in c (Unhold id) reply m r = (let e = d.holds id in let l = m.1 in omega arith)
  counts_in c (Shut id) Fine m r = let y = shut_alive (arena_of s id).life (arena_of s id).holds r in (lives id y.0, d.holds id ∙ y.1)
  counts_in c (Shut id) reply m r = tt
  counts_in c (End id) reply m r = closes id m.0
  counts_in c (Lend block id part) reply m r = tt
  counts_in c (Back block) reply m r = tt

-- legal entries change the handles by what they take and give back
counted_from : (limit : ℕ) (s : State) (t : Machine) (es : List Entry) → Depicts limit s t → IsLegal limit s es → (a : ArenaId)
    → handles_of (moved_by t es) a + all_given a es ≡ handles_of t a + all_taken a es
counted_from limit s t [] d l a = refl
counted_from limit s t (e ∷ es) d l a =
    let u : Machine = moved t e.caller e.call e.reply in
    let one = handled t e.caller e.call e.reply (counts_in limit s t d e.caller e.call e.reply l.0 l.1) a in
    let rest = counted_from limit (after limit s e) u es (depicts_by limit s t e.caller e.call e.reply d l.0) l.2 a in
    omega arith

only_from : (limit : ℕ) (s : State) (t : Machine) (es : List Entry) → Depicts limit s t → IsLegal limit s es → OnlyAlive t → OnlyAlive (moved_by t es)
only_from limit s t [] d l o = o
only_from limit s t (e ∷ es) d l o =
    only_from limit (after limit s e) (moved t e.caller e.call e.reply) es (depicts_by limit s t e.caller e.call e.reply d l.0) l.2
    (only_alive t e.caller e.call e.reply (counts_in limit s t d e.caller e.call e.reply l.0 l.1) o)

-- ---- the laws

module _ (limit : ℕ) (h : List Entry) (id : ArenaId) (l : IsLegal limit [] h) where
  abbrev now : State
  now = state_after limit [] h

  abbrev t : Machine
  t = moved_by opening h

  left_alive : (arena_of now id).life ≡ Alive → AreLeft id h ((arena_of now id).holds + 1)
  left_alive e =
      let d = always limit h l in
      let n = counted_from limit [] opening h (depicts_none limit) l id in
      let one : one_alive (t.life id) ≡ 1 = ap one_alive (lives limit now t d id e) in
      let held = d.holds id in
      omega arith

  left_none : (arena_of now id).life ≢ Alive → AreLeft id h 0
  left_none n = go (t.life id) refl
    where
      dead : t.life id ≢ Lives
      dead e = n (is_alive (has_arena now id) (arena_of now id).life (sym e ∙ (always limit h l).life id))

      nothing : one_alive (t.life id) ≡ 0 → AreLeft id h 0
      nothing z =
          let c = counted_from limit [] opening h (depicts_none limit) l id in
          let held = only_from limit [] opening h (depicts_none limit) l (λ a q. refl) id dead in
          omega arith

      go : (x : Stage) → t.life id ≡ x → AreLeft id h 0
      go Lives e = absurd (dead e)
      go Fresh e = nothing (ap one_alive e)
      go Closes e = nothing (ap one_alive e)
      go Over e = nothing (ap one_alive e)

pub handles_counted : HandlesAreCounted
handles_counted = record { alive = left_alive; none = left_none }

module _ (limit : ℕ) (h : List Entry) (e : Entry) (id : ArenaId) (l : IsLegal limit [] (h ++ e ∷ [])) where
  abbrev before : State
  before = state_after limit [] h

  legal_before : IsLegal limit [] h
  legal_before = (IsLegal-split limit [] h (e ∷ []) l).0

  may : MayCall before e.caller e.call
  may = (IsLegal-split limit [] h (e ∷ []) l).1.0

  replied : e.reply ≡ reply_to limit before e.call
  replied = (IsLegal-split limit [] h (e ∷ []) l).1.1

  last_shut : e.call ≡ Shut id → e.reply ≡ Fine → AreLeft id h 1
  last_shut is fine =
      let y = shut_alive (arena_of before id).life (arena_of before id).holds (sym fine ∙ (replied ∙ ap (reply_to limit before) is)) in
      let n = left_alive limit h id legal_before y.0 in
      let none = y.1 in
      omega arith

  last_unhold : e.call ≡ Unhold id → (n : ℕ) × AreLeft id h n × (1 < n)
  last_unhold is =
      let m : MayCall before e.caller (Unhold id) = subst (MayCall before e.caller) is may in
      ((arena_of before id).holds + 1, left_alive limit h id legal_before m.0, (let some = m.1 in omega arith))

  last_shuts : e.call ≡ Shut id → AreLeft id h 1 → e.reply ≡ Fine
  last_shuts is one = replied ∙ (ap (reply_to limit before) is ∙ go (arena_of before id).life refl)
    where
      none : (arena_of before id).life ≢ Alive → {A : Type 0} → A
      none n = absurd (let z = left_none limit h id legal_before n in let o = one in omega arith)

      go : (x : Life) → (arena_of before id).life ≡ x → shut_reply (arena_of before id).life (arena_of before id).holds ≡ Fine
      go Alive e' =
          let n = left_alive limit h id legal_before e' in
          let none : (arena_of before id).holds ≡ 0 = (let o = one in omega arith) in
          (λ j. shut_reply (e' j) (none j))
      go Closing e' = none (λ a. let c : Alive ≡ Closing = sym a ∙ e' in absurd (cc))
      go Ended e' = none (λ a. let c : Alive ≡ Ended = sym a ∙ e' in absurd (cc))

pub last_ends : LastHandleEnds
last_ends = record { shut = last_shut; shuts = last_shuts; unhold = last_unhold }
