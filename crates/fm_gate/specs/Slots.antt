-- What taking a slot does to a pass.
use Rattle.std.specs.Prelude.{◌≡◌, ◌<◌, ◌≤◌, ℕ, true, [], ◌∷◌, length}
use Rattle.fm_base.specs.{declared.{arena_id.ArenaId.{ArenaId}, kind.Kind.{Kind}}, Arenas.{owner_of}, Calls.{Open, Fine, entry_of}}
use Rattle.fm_base.specs.Finds.{FoundNothing, is_slot}
use Rattle.fm_rule_facts.specs.{Hands.{Hand, nothing, taken}, Views.{View, IsBusy}, Holds.{handles_with}}
use Rattle.fm_rule_calls.specs.Kept.{Goes}
use Rattle.fm_gate.specs.Learnt.{AllBusy}

-- the pass went on without entries of its own, found words of slot bits, and has this in its hand
pub record Went (old new : View) (hand : Hand) : Type 0 where
  pub goes : Goes old new []
  pub is : new ≡ record old { seen = new.seen; finds = new.finds; hand = hand }

-- it took the slot
pub record SlotTaken (old new : View) (slot : ℕ) : Type 0 where
  pub went : Went old new (taken slot)
  pub low : slot < old.shape.slots
  pub idle : old.whole ≡ true → ¬ (IsBusy old slot)

-- the word of slot bits was 0
pub record NoneTaken (old new : View) : Type 0 where
  pub went : Went old new nothing
  pub found : FoundNothing is_slot old.finds new.finds
  -- all that had been seen at that step is among what is seen now
  pub early : found.find.seen ≤ length new.seen
  pub busy : old.whole ≡ true → old.sweeps ≡ [] → AllBusy old

-- it opened the arena in the slot that it had taken, and has none in its hand; it has the first handle of an automatic arena
pub record OpenedIn (old new : View) (slot : ℕ) (k : Kind) (id : ArenaId) : Type 0 where
  pub goes : Goes old new (entry_of old.caller (Open id) Fine ∷ [])
  pub is : new ≡ record old { seen = new.seen; finds = new.finds; hand = nothing; handles = handles_with id old.handles }
  pub kind : id.kind ≡ k
  pub owner : owner_of id ≡ old.caller
