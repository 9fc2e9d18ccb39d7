-- What an act on one word of the pool needs, and what it does.
use Rattle.std.specs.Prelude.{◌≡◌, ℕ, ◌<◌}
use Rattle.atomic_table.specs.declared.shared.Seat.{Seat}
use Rattle.fm_words.specs.Places.{words}
use Rattle.fm_rule_facts.specs.{declared.step.Step.{Step}, Moves.{Tells, MayStep, MayStore}}
use Rattle.fm_rule.specs.declared.{pool.Pool.{Pool}, seen.Seen.{Seen}}

-- the seat may make the step at this word of the pool, which becomes f of what it was
pub record CanAct (pool : Pool) (seat : Seat (Unit {0}) Seen) (i : ℕ) (step : Step) (f : ℕ → ℕ) : Type 0 where
  pub table : seat.table_id ≡ pool.table.shared.table_id
  pub place : i < words pool.shape
  pub may : MayStep pool.shape step seat.id seat.me.0 i f

-- the seat may store y at this word of the pool
pub record CanStore (pool : Pool) (seat : Seat (Unit {0}) Seen) (i : ℕ) (step : Step) (y : ℕ) : Type 0 where
  pub table : seat.table_id ≡ pool.table.shared.table_id
  pub place : i < words pool.shape
  pub may : MayStore pool.shape step seat.id seat.me.0 i y

-- the seat made the step, and was told of x
pub record Acted (old new : Seat (Unit {0}) Seen) (step : Step) (x : ℕ) : Type 0 where
  pub table : new.table_id ≡ old.table_id
  pub id : new.id ≡ old.id
  pub slots : new.me.1 ≡ old.me.1
  pub tells : Tells step old.me.0 x new.me.0
