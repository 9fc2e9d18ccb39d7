-- What the caller of each call of the gate learns: one record each.
use Rattle.std.specs.Prelude.{◌≡◌, ◌≢◌, ℕ, ◌<◌, ◌≤◌, length, Bool, List, [], ◌∷◌, true, None, Result, Ok, Err, IfOk, IfErr}
use Rattle.fm_base.specs.declared.{caller.Caller.{Caller}, arena_id.ArenaId.{ArenaId}, kind.Kind.{Kind, TheVariants.{Automatic}}, refusal.Refusal.{Refusal}}
use Rattle.fm_base.specs.{declared.refusal.Refusal.TheVariants.{WrongThread, NoSlot}, Calls.{Call, Hold as Holding, Leave, Reply, Fine, Entry, entry_of}}
use Rattle.fm_base.specs.Finds.{FoundNothing, is_slot}
use Rattle.fm_base.specs.{Does.{DoesEnter, DoesAct, DoesPatch, DoesOpen, DoesAllocate, DoesIsAlive, DoesHold, DoesUnhold, DoesAgain}, Outcomes.{Gives}}
use Rattle.fm_base.specs.View.{but_loans}
use Rattle.fm_base.specs.declared.refusal.Refusal.TheVariants as refusal
use Rattle.fm_rule_facts.specs.{Views.{View, In, IsKnown, IsBusy}, Loans.{loans_of}, Holds.{grips, with_grips, holds_after, released}}
use Rattle.fm_rule_facts.specs.Words.{alive_holds, hold_found}
use Rattle.fm_rule.specs.declared.pool.Pool.{Pool}
use Rattle.fm_rule_calls.specs.{Kept.{Goes, Kept, KeptHolding, KeptHandling, Lasts, rest_of}, Told.{view_of_pass}}
use Rattle.fm_gate.specs.{Pages.{AllocatesSo, FoundNoPage, FullExactly, LendsNone, LentBesides}, Needs.{IsOutside, IsInside, CanUnhold, HasHandle}, declared.held.Hold.{Hold}}

-- of `enter`
pub record AfterEnter (pool : Pool) (old new : View) (id : ArenaId) (result : Result (Unit {0}) Refusal) : Type 0 where
  pub did : Kept old new (DoesEnter old.caller id result)
  pub inside : IfOk result (λ _. IsInside pool new id)
  pub outside : IfErr result (λ _. IsOutside pool new)
  -- an arena that the pass has a hold or a handle of is alive
  pub held : In id (grips id old) → result ≢ Err refusal.Closed
  -- then the pass is as it was
  pub wrong_thread : result ≡ Err WrongThread → new ≡ old
  pub lasts : Lasts old new

-- of one act inside an arena, in which the pass stays
pub record AfterAct (pool : Pool) (old new : View) (call : ArenaId → Call) (reply : Reply) : Type 0 where
  pub did : Kept old new (DoesAct old.inside old.caller call reply)
  pub inside : (id : ArenaId) → IsInside pool old id → IsInside pool new id
  pub lasts : Lasts old new

-- of `patch`
pub record AfterPatch (pool : Pool) (old new : View) (word mask bits found : ℕ) : Type 0 where
  pub did : Kept old new (DoesPatch old.inside old.caller word mask bits found)
  pub inside : (id : ArenaId) → IsInside pool old id → IsInside pool new id
  pub lasts : Lasts old new

-- of `leave`
pub record AfterLeave (pool : Pool) (old new : View) : Type 0 where
  pub did : Kept old new (DoesAct old.inside old.caller Leave Fine)
  pub outside : IsOutside pool new
  pub lasts : Lasts old new

-- of `is_alive`
pub record AfterIsAlive (pool : Pool) (old new : View) (id : ArenaId) (result : Result Bool Refusal) : Type 0 where
  pub did : Kept old new (DoesIsAlive old.caller id result)
  -- an arena that the pass has a hold or a handle of is alive
  pub held : In id (grips id old) → IfOk result (λ alive. alive ≡ true)
  pub outside : IsOutside pool new
  -- then the pass is as it was
  pub wrong_thread : result ≡ Err WrongThread → new ≡ old
  pub lasts : Lasts old new

-- every slot has an arena that hasn't ended, or has had its last generation
abbrev pub AllBusy : View → Type 0
AllBusy p = (slot : ℕ) → slot < p.shape.slots → IsBusy p slot

-- the arena is known now, and wasn't before
pub record IsNew (old new : View) (id : ArenaId) : Type 0 where
  pub unknown : ¬ (IsKnown old id)
  pub known : IsKnown new id

-- A step found that no slot could be taken; the pass is as it was, but for what it has seen and found
pub record FoundNoSlot (old new : View) : Type 0 where
  pub find : FoundNothing is_slot old.finds new.finds
  -- all that had been seen at that step is among what is seen now
  pub early : find.find.seen ≤ length new.seen
  pub busy : old.whole ≡ true → old.sweeps ≡ [] → AllBusy old
  pub is : new ≡ record old { seen = new.seen; finds = new.finds }

-- the handles of the pass after `open_arena`
abbrev pub handles_opened : Kind → Result ArenaId Refusal → List ArenaId → List ArenaId
handles_opened Automatic (Ok id) hs = id ∷ hs
handles_opened kind result hs = hs

-- of `open_arena`: `NoSlot` only where the word of slot bits was 0 at a step of the call. A pass that is known to be whole, and has swept what it ended,
-- gets it exactly where every slot is busy
pub record AfterOpen (pool : Pool) (old new : View) (kind : Kind) (result : Result ArenaId Refusal) : Type 0 where
  pub did : KeptHandling old new (handles_opened kind result old.handles) (λ own. DoesOpen old.caller kind result (but_loans own))
  -- it lends no page, and takes none back
  pub no_loan : but_loans did.own ≡ did.own
  pub is_new : IfOk result (λ id. IsNew old new id)
  pub handle : kind ≡ Automatic → IfOk result (λ id. HasHandle pool new id)
  pub slot : IfOk result (λ _. old.whole ≡ true → ¬ (AllBusy old))
  pub no_slot : IfErr result (λ refusal. (refusal ≡ NoSlot) × FoundNoSlot old new)
  -- a pass that is known to be whole leaves the loans as they were: a new arena has no page
  pub lends : old.whole ≡ true → loans_of new.seen ≡ loans_of old.seen
  pub outside : IsOutside pool new
  pub lasts : Lasts old new

-- ---- allocations

-- of `allocate`: what it gives was never given before
pub record AfterAllocate (pool : Pool) (old new : View) (id : ArenaId) (size align : ℕ) (result : Result ℕ Refusal) : Type 0 where
  pub did : Kept old new (λ own. DoesAllocate old.caller id size align result (but_loans own))
  pub gives : IfOk result (λ place. Gives (view_of_pass old) (view_of_pass new) id size align place)
  -- an arena that the pass has a hold or a handle of is alive
  pub held : In id (grips id old) → result ≢ Err refusal.Closed
  -- no memory is taken
  pub never : IfErr result (λ r. r ≢ refusal.Memory)
  pub no_page : result ≡ Err refusal.PoolFull → FoundNoPage old new id size align
  -- a pass that is known to be whole, and has swept what it shut, is refused so exactly where pages are too few
  pub exact : old.whole ≡ true → old.closes ≡ [] → old.sweeps ≡ [] → FullExactly old id size align result
  -- it enters, lends pages for parts of its range alone, allocates, and leaves
  pub lends : AllocatesSo old new id size align result did.own
  -- of a pass that is known to be whole, nothing else is lent than before but parts of the range that it knows
  pub lent : old.whole ≡ true → LentBesides old new id size align
  -- and it lends none where there is no room
  pub no_room : old.whole ≡ true → (given : ℕ) → result ≡ Err (refusal.NoRoom given) → LendsNone old.caller id size align given did.own
  -- then the pass is as it was
  pub bad_alignment : result ≡ Err refusal.BadAlignment → new ≡ old
  pub wrong_thread : result ≡ Err WrongThread → new ≡ old
  pub outside : IsOutside pool new
  pub lasts : Lasts old new

-- ---- holds

-- of the exchange that takes a hold, or a handle of an automatic arena, and found this session word; an arena that the pass holds is alive
pub record AfterTake (old new : View) (id : ArenaId) (word : ℕ) : Type 0 where
  pub goes : Goes old new (entry_of old.caller (Holding id) (hold_found (alive_holds id word)) ∷ [])
  pub rest : rest_of new ≡ rest_of (with_grips id (holds_after true id (hold_found (alive_holds id word)) (grips id old)) old)
  pub alive : In id (grips id old) → alive_holds id word ≢ None
  pub inside : new.inside ≡ old.inside
  pub mark : new.mark ≡ old.mark
  pub hand : new.hand ≡ old.hand
  pub swept : new.swept ≡ old.swept

-- a hold is one of the arena
abbrev pub DoesTake : Caller → ArenaId → Result Hold Refusal → List Entry → Type 0
DoesTake c id (Ok hold) own = (hold.arena ≡ id) × DoesHold c id (Ok tt) own
DoesTake c id (Err r) own = DoesHold c id (Err r) own

-- the holds of the pass after `hold`
abbrev pub holds_taken : ArenaId → Result Hold Refusal → List ArenaId → List ArenaId
holds_taken id (Ok hold) hs = id ∷ hs
holds_taken id (Err r) hs = hs

-- of `hold`
pub record AfterHold (pool : Pool) (old new : View) (id : ArenaId) (result : Result Hold Refusal) : Type 0 where
  pub did : KeptHolding old new (holds_taken id result old.holds) (DoesTake old.caller id result)
  pub held : IfOk result (λ hold. CanUnhold pool new hold)
  -- an arena that the pass has a hold of is alive
  pub alive : In id old.holds → result ≢ Err refusal.Closed
  -- then the pass is as it was
  pub unsupported : result ≡ Err refusal.Unsupported → new ≡ old
  pub wrong_thread : result ≡ Err WrongThread → new ≡ old
  pub outside : IsOutside pool new
  pub lasts : Lasts old new

-- of `unhold`, which leaves the pass where it stands
pub record AfterUnhold (pool : Pool) (old new : View) (id : ArenaId) : Type 0 where
  pub did : KeptHolding old new (released id old.holds) (DoesUnhold old.caller id)
  pub outside : IsOutside pool old → IsOutside pool new
  pub inside : (at : ArenaId) → IsInside pool old at → IsInside pool new at
  pub lasts : Lasts old new

-- ---- handles of automatic arenas

-- the handles of the pass after `again`
abbrev pub handles_again : ArenaId → Result (Unit {0}) Refusal → List ArenaId → List ArenaId
handles_again id (Ok u) hs = id ∷ hs
handles_again id (Err r) hs = hs

-- of `again`, which leaves the pass where it stands
pub record AfterAgain (pool : Pool) (old new : View) (id : ArenaId) (result : Result (Unit {0}) Refusal) : Type 0 where
  pub did : KeptHandling old new (handles_again id result old.handles) (DoesAgain old.caller id result)
  pub has : HasHandle pool new id
  pub outside : IsOutside pool old → IsOutside pool new
  pub inside : (at : ArenaId) → IsInside pool old at → IsInside pool new at
  pub lasts : Lasts old new
