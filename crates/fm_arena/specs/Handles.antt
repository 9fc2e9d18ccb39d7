-- Handles of automatic arenas: what their calls ask for and teach.
use Rattle.std.specs.Prelude.{◌≡◌, None, Result, Ok, Err, IfOk, IfErr}
use Rattle.fm_base.specs.declared.{arena_id.ArenaId.{ArenaId}, kind.Kind.TheVariants.{Automatic}, refusal.Refusal.{Refusal, TheVariants.{NoSlot}}}
use Rattle.fm_base.specs.{Does.{DoesOpen, DoesAgain, DoesGiveBack}, View.{but_loans}}
use Rattle.fm_rule_facts.specs.{Views.{View, In, IsKnown}, Holds.{released}}
use Rattle.fm_rule_calls.specs.Kept.{KeptHandling, HasEnded, HasNoWords, Lasts}
use Rattle.fm_gate.specs.{Makers.{made_by_pass}, Learnt.{IsNew, handles_opened, handles_again}}
use Rattle.fm_close.specs.{Does.{others_left}, declared.gave_back.GaveBack.{GaveBack, TheVariants.{Ended}}}
use Rattle.fm_arena.specs.{declared.handle.AutoHandle.{AutoHandle}, Opening.{OpensExactly}}

-- the pass has a handle of the automatic arena
pub record IsHandled (p : View) (id : ArenaId) : Type 0 where
  pub known : IsKnown p id
  pub has : In id p.handles
  pub automatic : id.kind ≡ Automatic

-- the pass made the handle, and has one of its arena
pub record HasHandle (p : View) (handle : AutoHandle) : Type 0 where
  pub maker : handle.maker ≡ made_by_pass p
  pub handled : IsHandled p handle.arena

-- and it is outside
pub record CanGiveBack (p : View) (handle : AutoHandle) : Type 0 where
  pub outside : p.inside ≡ None
  pub has : HasHandle p handle

-- ---- what is learnt

abbrev pub named : Result AutoHandle Refusal → Result ArenaId Refusal
named (Ok handle) = Ok handle.arena
named (Err r) = Err r

abbrev pub whether : Result AutoHandle Refusal → Result (Unit {0}) Refusal
whether (Ok handle) = Ok tt
whether (Err r) = Err r

-- of `start`: where no slot was free, a step found so; a pass that is known to be whole is refused exactly where every slot is busy
pub record AfterStart (old new : View) (result : Result AutoHandle Refusal) : Type 0 where
  pub did : KeptHandling old new (handles_opened Automatic (named result) old.handles)
      (λ own. DoesOpen old.caller Automatic (named result) (but_loans own))
  pub is_new : IfOk result (λ handle. IsNew old new handle.arena)
  pub has : IfOk result (λ handle. HasHandle new handle)
  pub no_slot : IfErr result (λ r. r ≡ NoSlot)
  pub exact : OpensExactly old new result
  pub outside : new.inside ≡ None
  pub lasts : Lasts old new

-- of `again`, which leaves the pass where it stands
pub record AfterAgain (old new : View) (handle : AutoHandle) (result : Result AutoHandle Refusal) : Type 0 where
  pub did : KeptHandling old new (handles_again handle.arena (whether result) old.handles) (DoesAgain old.caller handle.arena (whether result))
  pub same : IfOk result (λ other. other.arena ≡ handle.arena)
  pub has : HasHandle new handle
  pub other : IfOk result (λ other. HasHandle new other)
  pub inside : new.inside ≡ old.inside
  pub lasts : Lasts old new

-- of `give_back`
pub record AfterGiveBack (old new : View) (id : ArenaId) (result : GaveBack) : Type 0 where
  pub did : KeptHandling old new (released id old.handles) (λ own. DoesGiveBack old.caller id (others_left result) (but_loans own))
  pub ended : result ≡ Ended → HasEnded new id
  -- no word of the pool is lent to it any more
  pub no_words : result ≡ Ended → HasNoWords new id
  -- the pass has no other handle of it
  pub last : result ≡ Ended → ¬ (In id new.handles)
  pub outside : new.inside ≡ None
  pub lasts : Lasts old new
