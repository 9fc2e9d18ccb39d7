-- Where a pass finds no slot for an arena.
use Rattle.std.specs.Prelude.{◌≡◌, ◌≤◌, true, List, [], ◌++◌, length, Result, IfOk, IfErr}
use Rattle.fm_base.specs.{declared.{arena_id.ArenaId.{ArenaId}, kind.Kind.{Kind}, refusal.Refusal.{Refusal}}, Finds.{FoundNothing, is_slot}, Learnt.{AfterOpen}}
use Rattle.fm_base.specs.{Calls.{Entry}, Histories.{made_by}, View.{but_loans}}
use Rattle.fm_rule_facts.specs.Views.{View}
use Rattle.fm_rule_calls.specs.{Kept.{rest_of}, Told.{view_of_pass}}
use Rattle.fm_gate.specs.Learnt.{AllBusy}
use Rattle.fm_arena.specs.Shares.{nature_of_shared}

-- what each memory teaches of opening, of a pass
abbrev pub Opens : View → View → Kind → Result ArenaId Refusal → Type 0
Opens old new kind result = AfterOpen nature_of_shared (view_of_pass old) (view_of_pass new) kind result

-- no slot in its hand, nor that of an arena that it ended and hasn't swept
pub record HasNoSlot (p : View) : Type 0 where
  pub sweeps : (rest_of p).sweeps ≡ []
  pub slots : (rest_of p).slots ≡ []

-- a step found no slot, when the pass had seen no more than now
pub record FoundNoneLeft (old new : View) : Type 0 where
  pub find : FoundNothing is_slot old.finds new.finds
  pub early : find.find.seen ≤ length new.seen

-- A pass that is known to be whole is refused exactly where every slot has an arena that hasn't ended, or has had its last generation; any pass only where a
-- step found no slot. None of its own entries lends a page or takes one back
pub record OpensExactly {X : Type 0} (old new : View) (result : Result X Refusal) : Type 0 where
  pub opened : IfOk result (λ _. old.whole ≡ true → ¬ (AllBusy old))
  pub refused : IfErr result (λ _. old.whole ≡ true → HasNoSlot old → AllBusy old)
  pub found : IfErr result (λ _. FoundNoneLeft old new)
  pub no_loan : (more : List Entry) → new.seen ≡ old.seen ++ more → but_loans (made_by old.caller more) ≡ made_by old.caller more
