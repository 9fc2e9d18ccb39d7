-- What a crew did, the last of which went on once the others were gathered.
use Rattle.std.specs.{Prelude.{◌≡◌, ◌≢◌, List, [], ◌∷◌, ◌++◌, length, map, Result, Ok, Err}, List.{AllByRecursion}}
use Rattle.fm_base.specs.{declared.{caller.Caller.{Caller}, refusal.Refusal.{Refusal, TheVariants.{Memory, NoPass}}}, Calls.{Entry}, Histories.{made_by}}
use Rattle.fm_rule_calls.specs.Kept.{Lasts}
use Rattle.fm_rule_facts.specs.Views.{View, IsSound}
use Rattle.fm_workers_crew.specs.Crew.{AreDone, AreIdle, AreTooMany, CrewGathered, EndsCrew, IsIn, IsWhole, callers}

-- The last of the callers went on by its entries among these. None of the others made one
pub record LastGoes (Goes : Caller → List Entry → Type 0) (es : List Entry) (cs : List Caller) : Type 0 where
  pub others : List Caller
  pub last : Caller
  pub are : cs ≡ others ++ last ∷ []
  pub quiet : AreIdle es others
  pub goes : Goes last (made_by last es)

-- With no caller nobody goes on
abbrev pub GoesOn : (Caller → List Entry → Type 0) → List Entry → List Caller → Type 0
GoesOn Goes es [] = es ≡ []
GoesOn Goes es (c ∷ cs) = LastGoes Goes es (c ∷ cs)

-- All tasks were done before a cut, and behind it the last of the crew went on
pub record DoneBefore {T : Type 0} (Does : View → T → T → List Entry → Type 0) (Goes : Caller → List Entry → Type 0) {old new : View}
    (crew : CrewGathered old new) (tasks done : List T) : Type 0 where
  -- a pass that had seen just what stands before the cut
  pub cut : View
  pub before : List Entry
  pub seen : cut.seen ≡ old.seen ++ before
  pub behind : List Entry
  pub parts : crew.more ≡ before ++ behind
  pub shape : cut.shape ≡ old.shape
  pub sound : IsSound cut
  pub lasts : Lasts old cut
  -- the passes as they were when their tasks were done, in their order; up to the cut they made no more
  pub worked : List View
  pub are : map (λ p. p.caller) worked ≡ callers crew.crew
  pub within : AllByRecursion (λ p. IsIn p cut) worked
  pub each : AreDone Does before worked tasks done
  pub goes : GoesOn Goes behind (callers crew.crew)

-- What comes of it: a refusal as that of a crew, before any task is begun
abbrev pub EndsThen : {T : Type 0} → (View → T → T → List Entry → Type 0) → (Caller → List Entry → Type 0) → {old new : View} → CrewGathered old new
    → (tasks done : List T) → Result (Unit {0}) Refusal → Type 0
EndsThen Does Goes crew tasks done (Ok u) = DoneBefore Does Goes crew tasks done
EndsThen Does Goes {old} crew tasks done (Err r) = EndsCrew Does old.shape tasks done crew.more crew.passes crew.crew crew.draws (Err r)

pub record CrewWentOn {T : Type 0} (Does : View → T → T → List Entry → Type 0) (Goes : Caller → List Entry → Type 0) (old new : View) (tasks done : List T)
    (result : Result (Unit {0}) Refusal) : Type 0 where
  pub crew : CrewGathered old new
  pub ends : EndsThen Does Goes crew tasks done result
  -- where the pass was known to be whole, it is refused only where the tasks are too many
  pub wanting : IsWhole old → result ≡ Err NoPass → AreTooMany old (length tasks)
  pub lasts : Lasts old new
  pub sound : result ≢ Err Memory → IsSound new
  pub still_sound : IsSound old → IsSound new
