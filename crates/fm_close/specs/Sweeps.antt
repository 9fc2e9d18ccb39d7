-- What a pass does as it sweeps an arena that it ended.
use Rattle.std.specs.Prelude.{◌≡◌, ◌<◌, ℕ, List, Some}
use Rattle.fm_base.specs.{declared.arena_id.ArenaId.{ArenaId}, Calls.{Entry}, Finds.{Sweep}}
use Rattle.fm_rule_facts.specs.{Parts.{Swept, unread}, Views.{View, IsSound}, Closes.{passed_of, advanced, dropped}}
use Rattle.fm_rule.specs.{declared.pool.Pool.{Pool}, Passes.{IsOf}}
use Rattle.fm_rule_calls.specs.Kept.{Goes}
use Rattle.fm_close.specs.Does.{AreBacks}

-- the pass has these sweeps now, and has come so far with the next part; it is else as it was, but for what it has seen
pub record SweepsOn (old new : View) (own : List Entry) (swept : Swept) (sweeps : List Sweep) : Type 0 where
  pub goes : Goes old new own
  pub is : new ≡ record old { seen = new.seen; finds = new.finds; swept = swept; sweeps = sweeps }

-- the pass sweeps the arena, and this part is the next one
pub record SweepsPart (pool : Pool) (p : View) (id : ArenaId) (part : ℕ) : Type 0 where
  pub of : IsOf pool p
  pub sound : IsSound p
  pub next : passed_of p.sweeps id ≡ Some part
  pub low : part < pool.shape.reach

-- the next part of the arena has no page any more
pub record PartTaken (old new : View) (id : ArenaId) : Type 0 where
  pub own : List Entry
  pub backs : AreBacks old.caller own
  pub goes_on : SweepsOn old new own unread (advanced id old.sweeps)

-- so many parts of the arena have no page any more
pub record PartsTaken (old new : View) (id : ArenaId) (parts : ℕ) : Type 0 where
  pub own : List Entry
  pub backs : AreBacks old.caller own
  pub goes_on : SweepsOn old new own unread new.sweeps
  pub at : passed_of new.sweeps id ≡ Some parts
  pub left : dropped id new.sweeps ≡ dropped id old.sweeps
