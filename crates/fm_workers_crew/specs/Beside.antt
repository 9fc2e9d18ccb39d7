-- What a crew did, and beside it the pass that drew it.
use Rattle.std.specs.{Prelude.{◌≡◌, ◌⊎◌, true, List, [], ◌++◌, map, All, Result, Ok, Err}, List.{AllByRecursion}}
use Rattle.fm_base.specs.{declared.refusal.Refusal.{Refusal}, Calls.{Entry}, Finds.{Gathered}, Histories.{made_by}}
use Rattle.fm_base_lists.specs.Among.{IsAmong, AreApart}
use Rattle.fm_rule_calls.specs.Kept.{Lasts}
use Rattle.fm_rule_facts.specs.{Splits.{as_gathered}, Views.{View, IsSound}}
use Rattle.fm_workers_crew.specs.Crew.{AreDone, CrewWorked, IsFresh, IsIn, IsWhole, callers}

-- Passes were drawn, made entries while the pass made its own, and were gathered again: these, in their order
pub record GatheredBeside (Acts : List Entry → Type 0) (old new : View) : Type 0 where
  -- the entries, those of others too
  pub more : List Entry
  pub seen : new.seen ≡ old.seen ++ more
  pub acts : Acts (made_by old.caller more)
  -- those that were gathered before made none
  pub apart : All (λ g. made_by g.caller more ≡ []) old.gathered
  -- as they were when they were gathered
  pub passes : List View
  pub within : AllByRecursion (λ p. IsIn p new) passes
  pub crew : List Gathered
  pub are_passes : crew ≡ map as_gathered passes
  pub distinct : AreApart (callers crew)
  pub fresh : AllByRecursion (IsFresh old) (callers crew)
  pub gathered : new.gathered ≡ old.gathered ++ crew
  -- it has what it had
  pub shape : new.shape ≡ old.shape
  pub caller : new.caller ≡ old.caller
  pub closes : new.closes ≡ old.closes
  pub pages : new.pages ≡ old.pages
  pub sweeps : new.sweeps ≡ old.sweeps
  -- a pass that was known to be whole is so again, and nobody but it and the crew made an entry
  pub whole : IsWhole old → new.whole ≡ true
  pub alone : IsWhole old → AllByRecursion (λ e. (e.caller ≡ old.caller) ⊎ IsAmong e.caller (callers crew)) more
  pub lasts : Lasts old new
  pub sound : IsSound new

-- and each task was done by one of them
pub record WorkedBeside {T : Type 0} (Does : View → T → T → List Entry → Type 0) (Acts : List Entry → Type 0) (old new : View) (tasks done : List T) : Type 0 where
  pub crew : GatheredBeside Acts old new
  pub each : AreDone Does crew.more crew.passes tasks done

-- or no task was begun, and nothing was done beside them
abbrev pub WorksBeside : {T : Type 0} → (View → T → T → List Entry → Type 0) → (Acts : List Entry → Type 0) → (old new : View) → (tasks done : List T)
    → Result (Unit {0}) Refusal → Type 0
WorksBeside Does Acts old new tasks done (Ok u) = WorkedBeside Does Acts old new tasks done
WorksBeside Does Acts old new tasks done (Err r) = CrewWorked Does old new tasks done (Err r)
