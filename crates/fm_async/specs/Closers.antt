-- A close that is polled, and what polls of it do.
use Rattle.std.specs.Prelude.{◌≡◌, ℕ, Bool, true, false, List, [], ◌∷◌, ◌++◌, Option, None, IsSome}
use Rattle.fm_base.specs.{declared.{caller.Caller.{Caller}, arena_id.ArenaId.{ArenaId}}, Calls.{Shut, End, Fine, Entry, entry_of}, Histories.{made_by}}
use Rattle.fm_rule_facts.specs.Views.{View}
use Rattle.fm_rule.specs.declared.pool.Pool.{Pool}
use Rattle.fm_gate.specs.Needs.{IsOutside}
use Rattle.fm_close.specs.{declared.{shutting.Shutting.{Shutting}, outcome.Visit.{Visit}}, CloseLaws.{StandsBy}, Learnt.{AfterVisit}}
use Rattle.fm_async.specs.Visits.{Advanced}
use Rattle.futures.specs.declared.task.Poll.{Poll, TheVariants.{Ready, Pending}}

-- what contracts see of a closer
pub record CloserView : Type 0 where
  pub pool : Pool
  pub pass : View
  pub shutting : Shutting

-- the entries of a close: its Shut, and its End where the arena has ended
abbrev pub entries_of_close : (ended : Bool) → Caller → ArenaId → List Entry
entries_of_close true c a = entry_of c (Shut a) Fine ∷ entry_of c (End a) Fine ∷ []
entries_of_close false c a = entry_of c (Shut a) Fine ∷ []

-- The pass is outside, and its own entries end with those of the close
pub record IsClosing (pool : Pool) (p : View) (s : Shutting) : Type 0 where
  pub outside : IsOutside pool p
  pub stands : StandsBy s.ended p s
  pub before : List Entry
  pub mine : made_by p.caller p.seen ≡ before ++ entries_of_close s.ended p.caller s.arena

abbrev pub IsCloser : CloserView → Type 0
IsCloser c = IsClosing c.pool c.pass c.shutting

-- of `step`: one visit
pub record AfterStep (old new : CloserView) (result : Visit) : Type 0 where
  pub pool : new.pool ≡ old.pool
  pub visited : AfterVisit old.pool old.pass new.pass old.shutting new.shutting result
  pub is : IsCloser new

-- of a poll: where the arena had ended it makes no visit; else it visits up to a mark of the arena, or to its end
pub record AfterPoll (old new : CloserView) (blocker : Option ℕ) : Type 0 where
  pub pool : new.pool ≡ old.pool
  pub none : old.shutting.ended ≡ true → (new ≡ old) × (blocker ≡ None)
  pub visits : old.shutting.ended ≡ false → Advanced old.pool old.pass new.pass old.shutting new.shutting blocker
  pub is : IsCloser new

-- what a poll answers: the arena where it has ended, else that it is pending, by a blocker
abbrev pub PollAnswers : CloserView → (blocker : Option ℕ) → Poll ArenaId → Type 0
PollAnswers c blocker (Ready a) = (a ≡ c.shutting.arena) × (c.shutting.ended ≡ true) × (blocker ≡ None)
PollAnswers c blocker Pending = (c.shutting.ended ≡ false) × IsSome blocker
