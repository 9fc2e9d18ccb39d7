-- What each call of a close asks for, and what its caller learns: one record each.
use Rattle.std.specs.Prelude.{◌≡◌, ◌≢◌, ◌+◌, ◌<◌, ◌==◌, true, false, List, [], ◌∷◌, ◌++◌, length, ℕ, Option, Some, None, Result, Ok, Err, IfOk, IfSome}
use Rattle.fm_base.specs.declared.{arena_id.ArenaId.{ArenaId}, kind.Kind.{Kind}, refusal.Refusal.{Refusal, TheVariants.{WrongThread, CannotClose}}}
use Rattle.fm_base.specs.{Calls.{End, Fine, Entry, entry_of}, Does.{DoesClose, DoesGiveBack}, Finds.{Close, Sweep, Find, Visits}, View.{but_loans}}
use Rattle.fm_rule_facts.specs.{Views.{View, In, IsKnown}, Closes.{walk_of, passed_of, advanced, dropped}, Steps.{is_clear}, Words.{mark_of, alive_holds}}
use Rattle.fm_rule_facts.specs.{Holds.{released}, Handles.{giving_by, given_back, giving_entries}}
use Rattle.fm_rule.specs.declared.pool.Pool.{Pool}
use Rattle.fm_rule_calls.specs.Kept.{Goes, KeptAs, KeptBut, KeptHandling, Kept, rest_of, HasEnded, HasNoWords, Lasts}
use Rattle.fm_gate.specs.{Makers.{made_by_pass}, Needs.{IsOutside, HasHandle}}
use Rattle.fm_close.specs.declared.{gave_back.GaveBack.{GaveBack}, shutting.Shutting.{Shutting}, outcome.Visit.{Visit, TheVariants.{Next, Inside, Ended}}}
use Rattle.fm_close.specs.Does.{AreBacks, DoesShut, DoesVisit, visit_answer, after_visit, DoesSpend, others_left}
use Rattle.fm_close.specs.declared.gave_back.GaveBack.TheVariants as gave

-- ---- what is asked for

-- The close is one of this pass, which made it, and its next mark is to be visited
pub record IsUnderWay (p : View) (s : Shutting) : Type 0 where
  pub maker : s.maker ≡ made_by_pass p
  pub unfinished : s.ended ≡ false
  pub known : IsKnown p s.arena
  pub at : passed_of p.closes s.arena ≡ Some s.next
  pub low : s.next < p.shape.passes

pub record CanWalk (pool : Pool) (p : View) (s : Shutting) : Type 0 where
  pub outside : IsOutside pool p
  pub walks : IsUnderWay p s

-- The arena has ended, and the pass, which made the close, hasn't begun to sweep it
pub record IsToSweep (p : View) (s : Shutting) : Type 0 where
  pub maker : s.maker ≡ made_by_pass p
  pub ended : s.ended ≡ true
  pub at : passed_of p.sweeps s.arena ≡ Some 0

pub record CanSweep (pool : Pool) (p : View) (s : Shutting) : Type 0 where
  pub outside : IsOutside pool p
  pub sweep : IsToSweep p s

-- outside, with a handle of the arena
pub record CanGiveBack (pool : Pool) (p : View) (id : ArenaId) : Type 0 where
  pub outside : IsOutside pool p
  pub handle : HasHandle pool p id

-- ---- what is learnt

-- the closes of a pass after `shut`
abbrev pub closes_shut : ArenaId → Result Shutting Refusal → List Close → List Close
closes_shut id (Ok s) cs = walk_of id 0 ∷ cs
closes_shut id (Err r) cs = cs

-- refused for its caller or the arena's kind, the pass is as it was
pub record IsAsItWas {A : Type 0} (old new : View) (result : Result A Refusal) : Type 0 where
  pub wrong_thread : result ≡ Err WrongThread → new ≡ old
  pub cannot_close : (kind : Kind) → result ≡ Err (CannotClose kind) → new ≡ old

-- of `shut`
pub record AfterShut (pool : Pool) (old new : View) (id : ArenaId) (result : Result Shutting Refusal) : Type 0 where
  pub did : KeptBut old new (closes_shut id result old.closes) (DoesShut (made_by_pass old) id result)
  pub walks : IfOk result (λ s. IsUnderWay new s)
  pub outside : IsOutside pool new
  pub as_was : IsAsItWas old new result
  pub lasts : Lasts old new

-- the closes of a pass after a visit
abbrev pub closes_visited : ArenaId → Visit → List Close → List Close
closes_visited id Next cs = advanced id cs
closes_visited id (Inside k) cs = cs
closes_visited id Ended cs = dropped id cs

-- the arenas that a pass has to sweep after a visit
abbrev pub sweeps_visited : ArenaId → Visit → List Sweep → List Sweep
sweeps_visited id Next cs = cs
sweeps_visited id (Inside k) cs = cs
sweeps_visited id Ended cs = walk_of id 0 ∷ cs

-- what stands of the close after a visit
abbrev pub StandsAfter : View → Shutting → Visit → Type 0
StandsAfter p s Next = IsUnderWay p s
StandsAfter p s (Inside k) = IsUnderWay p s × (k ≢ p.caller.number)
StandsAfter p s Ended = HasEnded p s.arena × IsToSweep p s

-- The one mark that the visit loaded, of the walk's next number, as the finds keep it; these are the visit's own entries
pub record Looked (old new : View) (s : Shutting) (own : List Entry) : Type 0 where
  pub find : Find
  pub step : find.step ≡ Visits s.arena s.next
  pub seen : find.seen + length own ≡ length new.seen
  pub clear : find.clear ≡ is_clear old
  pub gathered : find.gathered ≡ length old.gathered
  pub drew : find.drew ≡ None
  pub grown : new.finds ≡ old.finds ++ find ∷ []

-- of `visit`: its answer is by the mark that it loaded
pub record AfterVisit (pool : Pool) (old new : View) (s t : Shutting) (result : Visit) : Type 0 where
  pub did : KeptAs old new (record (rest_of old) {
    closes = closes_visited s.arena result old.closes;
    sweeps = sweeps_visited s.arena result old.sweeps;
  }) (DoesVisit old.caller s.arena result)
  pub looked : Looked old new s did.own
  pub answer : result ≡ visit_answer s.next (looked.find.found == mark_of s.arena) (s.next + 1 == old.shape.passes)
  pub close : t ≡ after_visit s result
  pub stands : StandsAfter new t result
  pub outside : IsOutside pool new
  pub lasts : Lasts old new

-- of the visits of all marks that were left: the last one is the entry End
pub record Walked (pool : Pool) (old new : View) (s t : Shutting) : Type 0 where
  pub goes : Goes old new (entry_of old.caller (End s.arena) Fine ∷ [])
  pub rest : rest_of new ≡ record (rest_of old) {
    closes = dropped s.arena old.closes;
    sweeps = walk_of s.arena 0 ∷ old.sweeps;
  }
  pub arena : t.arena ≡ s.arena
  pub ends : CanSweep pool new t
  pub over : HasEnded new s.arena

-- of `sweep`, whose own entries take back the pages of the arena: none is lent to it any more
pub record AfterSweep (pool : Pool) (old new : View) (id : ArenaId) : Type 0 where
  pub did : KeptAs old new (record (rest_of old) { sweeps = dropped id old.sweeps }) (AreBacks old.caller)
  pub ended : HasEnded new id
  pub no_words : HasNoWords new id
  pub outside : IsOutside pool new
  pub lasts : Lasts old new

-- of `close`
pub record AfterClose (pool : Pool) (old new : View) (id : ArenaId) (result : Result (Unit {0}) Refusal) : Type 0 where
  pub did : Kept old new (λ own. DoesClose old.caller id result (but_loans own))
  pub ended : IfOk result (λ _. HasEnded new id)
  pub no_words : IfOk result (λ _. HasNoWords new id)
  pub outside : IsOutside pool new
  pub as_was : IsAsItWas old new result
  pub lasts : Lasts old new

-- ---- handles of automatic arenas

-- of the exchange that gives back a handle, and found this session word
pub record AfterBack (old new : View) (id : ArenaId) (word : ℕ) : Type 0 where
  pub goes : Goes old new (giving_entries id (giving_by (alive_holds id word)) old.caller)
  pub rest : rest_of new ≡ rest_of (given_back id (giving_by (alive_holds id word)) old)
  pub alive : alive_holds id word ≢ None
  pub inside : new.inside ≡ old.inside
  pub mark : new.mark ≡ old.mark
  pub hand : new.hand ≡ old.hand
  pub swept : new.swept ≡ old.swept

-- the closes of a pass after a handle was spent
abbrev pub closes_spent : ArenaId → Option Shutting → List Close → List Close
closes_spent id None cs = cs
closes_spent id (Some s) cs = walk_of id 0 ∷ cs

-- of a handle that is spent
pub record AfterSpend (pool : Pool) (old new : View) (id : ArenaId) (result : Option Shutting) : Type 0 where
  pub did : KeptAs old new (record (rest_of old) { closes = closes_spent id result old.closes; handles = released id old.handles })
      (DoesSpend (made_by_pass old) id result)
  pub walks : IfSome result (λ s. CanWalk pool new s)
  pub outside : IsOutside pool new

-- of `give_back`
pub record AfterGiveBack (pool : Pool) (old new : View) (id : ArenaId) (result : GaveBack) : Type 0 where
  pub did : KeptHandling old new (released id old.handles) (λ own. DoesGiveBack old.caller id (others_left result) (but_loans own))
  pub ended : result ≡ gave.Ended → HasEnded new id
  pub no_words : result ≡ gave.Ended → HasNoWords new id
  -- the pass has no other handle of it
  pub last : result ≡ gave.Ended → ¬ (In id new.handles)
  pub outside : IsOutside pool new
  pub lasts : Lasts old new
