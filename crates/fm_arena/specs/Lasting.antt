-- What the calls of a memory leave of a `Shared`, also those of code that is written for any memory.
use Rattle.std.specs.Prelude.{◌≡◌, ◌≢◌, ◌<◌, List, Result, IfOk}
use Rattle.fm_base.specs.{declared.{arena_id.ArenaId.{ArenaId}, refusal.Refusal.{Refusal}}, Calls.{Entry}, View.{Makes}}
use Rattle.fm_rule_facts.specs.{Views.{View}, Holds.{how_many}}
use Rattle.fm_rule.specs.{declared.pool.Pool.{Pool}, Passes.{IsOf}}
use Rattle.fm_rule_calls.specs.{Kept.{Lasts}, Told.{view_of_pass}}
use Rattle.fm_gate.specs.{declared.held.Hold.{Hold}, Makers.{made_by_pass}}
use Rattle.fm_close.specs.declared.gave_back.GaveBack.{GaveBack}
use Rattle.fm_arena.specs.{Learnt.{CanUnhold, AfterHold, AfterUnhold}, Handles.{HasHandle, AfterStart, AfterAgain, AfterGiveBack}}
use Rattle.fm_arena.specs.declared.handle.AutoHandle.{AutoHandle}

-- its pass is one of the same pool
pub record SamePool (old new : View) : Type 0 where
  pub home : new.home ≡ old.home
  pub shape : new.shape ≡ old.shape

abbrev pub StaysInItsPool : Type 0
StaysInItsPool = (old new : View) (own : List Entry) → Makes (view_of_pass old) (view_of_pass new) own → SamePool old new

abbrev pub IsOfTheSame : Type 0
IsOfTheSame = (pool : Pool) (old new : View) → SamePool old new → IsOf pool old → IsOf pool new

pub record KeepsItsPool : Type 0 where
  pub stays : StaysInItsPool
  pub of : IsOfTheSame

-- ---- holds and handles

-- two things that can be used so, both of one arena, which the pass has
pub record AreTwo {A : Type 0} (Can : A → Type 0) (arena : A → ArenaId) (has : List ArenaId) (a b : A) : Type 0 where
  pub first : Can a
  pub second : Can b
  pub same : arena b ≡ arena a
  pub two : 1 < how_many (arena a) has

-- two holds of one arena
abbrev pub HasBoth : View → Hold → Hold → Type 0
HasBoth p a b = AreTwo (CanUnhold p) (λ h. h.arena) p.holds a b

-- A hold stands beside others: a second one of its arena may be taken, and each of the two stands when the other is spent
pub record HoldsStand : Type 0 where
  pub at_hold : (old new : View) (id : ArenaId) (result : Result Hold Refusal) (hold : Hold) → AfterHold old new id result → CanUnhold old hold
      → CanUnhold new hold
  pub both : (old new : View) (result : Result Hold Refusal) (first : Hold) → AfterHold old new first.arena result → CanUnhold old first
      → IfOk result (λ second. HasBoth new first second)
  pub both_by_memory : (old new : View) (own : List Entry) (first second : Hold) → Makes (view_of_pass old) (view_of_pass new) own
      → HasBoth old first second → HasBoth new first second
  pub one_left : (old new : View) (first second : Hold) → HasBoth old first second → AfterUnhold old new first.arena
      → CanUnhold new first × CanUnhold new second
  pub others_left : (old new : View) (other : ArenaId) (hold : Hold) → AfterUnhold old new other → other ≢ hold.arena → CanUnhold old hold
      → CanUnhold new hold

-- a hold can be spent after calls of a memory, and after others that leave the pass its holds
pub record HoldLasts : Type 0 where
  pub on : (old new : View) (hold : Hold) → Lasts old new → made_by_pass new ≡ made_by_pass old → new.holds ≡ old.holds → CanUnhold old hold
      → CanUnhold new hold
  pub by_memory : (old new : View) (own : List Entry) (hold : Hold) → Makes (view_of_pass old) (view_of_pass new) own → CanUnhold old hold → CanUnhold new hold
  pub beside : HoldsStand

-- two handles of one arena
abbrev pub HasTwo : View → AutoHandle → AutoHandle → Type 0
HasTwo p a b = AreTwo (HasHandle p) (λ h. h.arena) p.handles a b

-- A handle stands beside others: where another of its arena is taken, each of the two stands when the other is given back
pub record HandlesStand : Type 0 where
  pub at_start : (old new : View) (result : Result AutoHandle Refusal) (handle : AutoHandle) → AfterStart old new result → HasHandle old handle
      → HasHandle new handle
  pub at_again : (old new : View) (of handle : AutoHandle) (result : Result AutoHandle Refusal) → AfterAgain old new of result → HasHandle old handle
      → HasHandle new handle
  pub both : (old new : View) (first : AutoHandle) (result : Result AutoHandle Refusal) → AfterAgain old new first result → HasHandle old first
      → IfOk result (λ second. HasTwo new first second)
  pub both_by_memory : (old new : View) (own : List Entry) (first second : AutoHandle) → Makes (view_of_pass old) (view_of_pass new) own
      → HasTwo old first second → HasTwo new first second
  pub one_left : (old new : View) (first second : AutoHandle) (result : GaveBack) → HasTwo old first second → AfterGiveBack old new first.arena result
      → HasHandle new first × HasHandle new second
  pub others_left : (old new : View) (other : ArenaId) (result : GaveBack) (handle : AutoHandle) → AfterGiveBack old new other result
      → other ≢ handle.arena → HasHandle old handle → HasHandle new handle

-- and a handle likewise
pub record HandleLasts : Type 0 where
  pub on : (old new : View) (handle : AutoHandle) → Lasts old new → made_by_pass new ≡ made_by_pass old → new.handles ≡ old.handles
      → HasHandle old handle → HasHandle new handle
  pub by_memory : (old new : View) (own : List Entry) (handle : AutoHandle) → Makes (view_of_pass old) (view_of_pass new) own → HasHandle old handle
      → HasHandle new handle
  pub beside : HandlesStand
