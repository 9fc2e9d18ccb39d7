-- What a poll of a set does.
use Rattle.std.specs.{Prelude.{◌≡◌, ◌≢◌, ◌≤◌, ◌<◌, ◌+◌, ◌-◌, ◌++◌, ◌∷◌, ℕ, Bool, true, false, if◌then◌else◌, List, [], length, Option, Some, None}, List.{AllByRecursion}}
use Rattle.fm_base.specs.{declared.{caller.Caller.{Caller}, arena_id.ArenaId.{ArenaId}}, Calls.{End, Fine, Entry, entry_of}, Finds.{Find, Visits}}
use Rattle.fm_rule_facts.specs.{Views.{View}, Words.{mark_of}}
use Rattle.fm_rule.specs.declared.pool.Pool.{Pool}
use Rattle.fm_rule_calls.specs.Kept.{Goes, Lasts}
use Rattle.fm_close.specs.declared.shutting.Shutting.{Shutting}
use Rattle.fm_async.specs.{declared.waiting.Waiting.{Waiting}, Visits.{Advanced}, Sets.{SetView, IsSetCloser, closes_of, unfinished}}
use Rattle.futures.specs.declared.task.Poll.{Poll, TheVariants.{Ready, Pending}}

-- One close of a set is polled: where its arena had ended no mark is visited, else marks up to one of the arena or its end
pub record Polls (pool : Pool) (old new : View) (v w : Waiting) : Type 0 where
  pub none : v.close.ended ≡ true → (new ≡ old) × (w.close ≡ v.close) × (w.blocker ≡ None)
  pub visits : v.close.ended ≡ false → Advanced pool old new v.close w.close w.blocker

-- so is each of them, in their order
abbrev pub PollsEach : Pool → View → View → List Waiting → List Waiting → Type 0
PollsEach pool p q [] [] = q ≡ p
PollsEach pool p q (v ∷ vs) (w ∷ ws) = (r : View) × Polls pool p r v w × PollsEach pool r q vs ws
PollsEach pool p q vs ws = ⊥

abbrev pub arenas_of : List Waiting → List ArenaId
arenas_of [] = []
arenas_of (w ∷ ws) = w.close.arena ∷ arenas_of ws

-- the End entries of the arenas that have ended since, in the order of the closes
abbrev pub end_since : (before now : Bool) → Caller → ArenaId → List Entry
end_since false true c a = entry_of c (End a) Fine ∷ []
end_since before now c a = []

abbrev pub ends_since : Caller → List Waiting → List Waiting → List Entry
ends_since c (v ∷ vs) (w ∷ ws) = end_since v.close.ended w.close.ended c v.close.arena ++ ends_since c vs ws
ends_since c vs ws = []

-- how many marks of so many passes are left to be visited, for all of them together
abbrev pub marks_left : (passes : ℕ) → List Waiting → ℕ
marks_left passes [] = 0
marks_left passes (w ∷ ws) = (if w.close.ended then 0 else passes - w.close.next) + marks_left passes ws

-- Between the two views mark k was loaded, which names the arena, isn't the pass's own, and is the next to be visited
pub record IsLoaded (old new : View) (s : Shutting) (k : ℕ) : Type 0 where
  pub before : List Find
  pub find : Find
  pub after : List Find
  pub grown : new.finds ≡ old.finds ++ (before ++ find ∷ after)
  pub step : find.step ≡ Visits s.arena k
  pub names : find.found ≡ mark_of s.arena
  pub next : k ≡ s.next
  pub other : k ≢ new.caller.number

-- the blocker of a close: none where its arena has ended, else the number of a mark that was loaded
abbrev pub IsBlocker : View → View → Shutting → Option ℕ → Type 0
IsBlocker old new s None = s.ended ≡ true
IsBlocker old new s (Some k) = (s.ended ≡ false) × IsLoaded old new s k

-- of a poll of a set
pub record AfterPolls (old new : SetView) : Type 0 where
  pub pool : new.pool ≡ old.pool
  pub room : new.room ≡ old.room
  pub each : PollsEach old.pool old.pass new.pass old.closes new.closes
  pub arenas : arenas_of new.closes ≡ arenas_of old.closes
  pub many : length new.closes ≡ length old.closes
  pub goes : Goes old.pass new.pass (ends_since old.pass.caller old.closes new.closes)
  pub blockers : AllByRecursion (λ w. IsBlocker old.pass new.pass w.close w.blocker) new.closes
  -- each visit is a find: there are no more of them than marks were left
  pub few : length new.pass.finds ≤ length old.pass.finds + marks_left old.pass.shape.passes old.closes
  pub lasts : Lasts old.pass new.pass
  pub is : IsSetCloser new

-- what a poll answers: how many arenas there are where all have ended, else that it is pending
abbrev pub SetAnswers : SetView → Poll ℕ → Type 0
SetAnswers c (Ready n) = (n ≡ length c.closes) × (unfinished (closes_of c.closes) ≡ 0)
SetAnswers c Pending = 0 < unfinished (closes_of c.closes)

-- a number that is that of all arenas of the new set is that of the old one's
abbrev pub StayAsMany : SetView → SetView → Type 0
StayAsMany old new = (n : ℕ) → n ≡ length new.closes → n ≡ length old.closes
