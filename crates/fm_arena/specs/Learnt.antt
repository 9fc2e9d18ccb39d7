-- What the calls of a `Shared` beside those of a memory ask for and teach: one record each.
use Rattle.std.specs.Prelude.{◌≡◌, ◌≢◌, ◌≤◌, Bool, true, List, [], None, Result, Err, IfOk}
use Rattle.fm_base.specs.declared.{arena_id.ArenaId.{ArenaId}, kind.Kind.TheVariants.{Automatic}, refusal.Refusal.{Refusal}}
use Rattle.fm_base.specs.{declared.refusal.Refusal.TheVariants.{Closed, WrongThread, Unsupported}, Arenas.{has_arena, arena_of}, Calls.{Entry}}
use Rattle.fm_base.specs.{Histories.{state_after}, Does.{DoesIsAlive, DoesUnhold}}
use Rattle.fm_rule_facts.specs.{Views.{View, In, IsKnown, IsSound, given_of, grips, limit_of}, Holds.{released}}
use Rattle.fm_rule.specs.{declared.pool.Pool.{Pool}, Passes.{IsOf, GoesOnFrom}}
use Rattle.fm_rule_calls.specs.Kept.{Kept, KeptHolding, Lasts}
use Rattle.fm_gate.specs.{declared.held.Hold.{Hold}, Crews.{HasNothing}, Makers.{made_by_pass}, Needs.{IsOutside}, Learnt.{DoesTake, holds_taken}}

-- of `into_pass`: the pass is the one that the memory told of, outside in the pool that it is of without a page, and sound
pub record AfterIntoPass (shared pass : View) : Type 0 where
  pub same : pass ≡ shared
  pub outside : (pool : Pool) → IsOf pool shared → IsOutside pool pass
  pub no_page : pass.pages ≡ []
  pub sound : IsSound pass

-- of `meet`: the history of the note is a beginning of the pass's, which knows what the other knew
pub record AfterMeet (old new : View) (seen : List Entry) : Type 0 where
  pub did : Kept old new (λ own. own ≡ [])
  pub met : GoesOnFrom seen new.seen
  pub known : (id : ArenaId) → has_arena (state_after (limit_of new.shape) [] seen) id ≡ true → IsKnown new id
  pub given : (id : ArenaId) → (arena_of (state_after (limit_of new.shape) [] seen) id).given ≤ given_of new id
  pub inside : new.inside ≡ old.inside
  pub lasts : Lasts old new

-- the other is of the same pool and outside, and has nothing
pub record CanBeGathered (p other : View) : Type 0 where
  pub home : other.home ≡ p.home
  pub shape : other.shape ≡ p.shape
  pub outside : other.inside ≡ None
  pub nothing : HasNothing other

-- of `is_alive`
pub record AfterIsAlive (old new : View) (id : ArenaId) (result : Result Bool Refusal) : Type 0 where
  pub did : Kept old new (DoesIsAlive old.caller id result)
  -- an arena that the pass has a hold or a handle of is alive
  pub held : In id (grips id old) → IfOk result (λ alive. alive ≡ true)
  pub outside : new.inside ≡ None
  -- then the pass is as it was
  pub wrong_thread : result ≡ Err WrongThread → new ≡ old
  pub lasts : Lasts old new

-- ---- holds

-- the pass took the hold, and may stand anywhere
pub record CanUnhold (p : View) (hold : Hold) : Type 0 where
  pub maker : hold.maker ≡ made_by_pass p
  pub known : IsKnown p hold.arena
  pub held : In hold.arena p.holds
  pub by_hand : hold.arena.kind ≢ Automatic

-- of `hold`
pub record AfterHold (old new : View) (id : ArenaId) (result : Result Hold Refusal) : Type 0 where
  pub did : KeptHolding old new (holds_taken id result old.holds) (DoesTake old.caller id result)
  pub held : IfOk result (λ hold. CanUnhold new hold)
  -- an arena that the pass has a hold of is alive
  pub alive : In id old.holds → result ≢ Err Closed
  -- then the pass is as it was
  pub unsupported : result ≡ Err Unsupported → new ≡ old
  pub wrong_thread : result ≡ Err WrongThread → new ≡ old
  pub outside : new.inside ≡ None
  pub lasts : Lasts old new

-- of `unhold`, which leaves the pass where it stands
pub record AfterUnhold (old new : View) (id : ArenaId) : Type 0 where
  pub did : KeptHolding old new (released id old.holds) (DoesUnhold old.caller id)
  pub inside : new.inside ≡ old.inside
  pub lasts : Lasts old new
