-- Which `Shared` can be gathered once its thread is done.
use Rattle.std.specs.Prelude.{List}
use Rattle.fm_base.specs.{Calls.{Entry}, View.{Makes}}
use Rattle.fm_rule_facts.specs.Views.{View}
use Rattle.fm_rule.specs.{declared.pool.Pool.{Pool}, Passes.{IsOf}, Draws.{CanGather}}
use Rattle.fm_rule_calls.specs.Told.{view_of_pass}
use Rattle.fm_gate.specs.Crews.{HasNothing}
use Rattle.fm_arena.specs.Learnt.{AfterIntoPass, AfterMeet}

-- Who has nothing to give back has nothing still after calls of a memory, and where it met what another had seen; so it can be gathered
pub record WorkerLasts : Type 0 where
  pub by_memory : (old new : View) (own : List Entry) → Makes (view_of_pass old) (view_of_pass new) own → HasNothing old → HasNothing new
  pub at_meet : (old new : View) (seen : List Entry) → AfterMeet old new seen → HasNothing old → HasNothing new
  pub can_gather : (pool : Pool) (shared pass : View) → IsOf pool shared → AfterIntoPass shared pass → HasNothing shared → CanGather pool pass
