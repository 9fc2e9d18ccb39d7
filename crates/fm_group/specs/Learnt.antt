-- What is learnt of each call.
use Rattle.std.specs.Prelude.{◌≡◌, ℕ, [], List, ℤ, None, Result, Ok, Err}
use Rattle.fm_base.specs.{declared.{caller.Caller.{Caller}, refusal.Refusal.{Refusal, TheVariants.{WrongThread}}}, Arenas.{MayUse}, Calls.{Entry}}
use Rattle.fm_base.specs.{Outcomes.{Lasts}, View.{Did, View}}
use Rattle.fm_segment.specs.Access.{IsKnown}
use Rattle.fm_group_lists.specs.Groups.{Group}
use Rattle.fm_group.specs.{Asked.{IsReady}, Counting.{DoesCount, ReadsValue}, Reading.{DoesReadGroups}, Table.{Counter}, Values.{Valued}}

-- what `number_at` does, the refusals in the order of the checks
abbrev pub DoesNumber : Caller → Valued → ℕ → Result ℤ Refusal → List Entry → Type 0
DoesNumber c v n (Ok x) own = MayUse v.records.arena c × ReadsValue c v n (Ok x) own
DoesNumber c v n (Err WrongThread) own = ¬ (MayUse v.records.arena c) × (own ≡ [])
DoesNumber c v n (Err r) own = MayUse v.records.arena c × ReadsValue c v n (Err r) own

-- of `number_at`
pub record AfterNumber (old new : View) (v : Valued) (n : ℕ) (result : Result ℤ Refusal) : Type 0 where
  pub did : Did old new (DoesNumber old.caller v n result)
  pub outside : new.inside ≡ None
  pub known : IsKnown new v.records
  pub lasts : Lasts old new

-- of `count`: what it did by its own entries, and that it may be called again
pub record AfterCount (old new : View) (w : Counter) (n : ℕ) (result : Result ℕ Refusal) : Type 0 where
  pub did : Did old new (DoesCount old.caller w n result)
  pub ready : IsReady new w
  pub lasts : Lasts old new

-- of `read_groups`
pub record AfterReadGroups (old new : View) (w : Counter) (result : Result (List Group) Refusal) : Type 0 where
  pub did : Did old new (DoesReadGroups old.caller w result)
  pub ready : IsReady new w
  pub lasts : Lasts old new
