-- The end of a close: its marks were visited, and the arena was swept.
use Rattle.std.specs.Prelude.{◌≡◌, true, false}
use Rattle.fm_rule_facts.specs.Views.{View}
use Rattle.fm_rule.specs.declared.pool.Pool.{Pool}
use Rattle.fm_close.specs.{declared.shutting.Shutting.{Shutting}, Learnt.{AfterSweep, Walked}}
use Rattle.fm_async.specs.Visits.{Visited}

-- first all marks that were left, and then the pages and the slot
pub record Ends (pool : Pool) (old new : View) (s : Shutting) : Type 0 where
  pub middle : View
  pub last : Shutting
  pub walked : Walked pool old middle s last
  pub swept : AfterSweep pool middle new last.arena

-- all marks that were left were visited: none, where the arena had ended
pub record VisitedAll (pool : Pool) (old new : View) (s t : Shutting) : Type 0 where
  pub ended : t.ended ≡ true
  pub visited : s.ended ≡ false → Visited pool old new s t
  pub none : s.ended ≡ true → (new ≡ old) × (t ≡ s)
