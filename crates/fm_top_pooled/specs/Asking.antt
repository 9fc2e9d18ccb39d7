-- What a crew leaves that was asked of records in a pool, and what a finished pool keeps of its pass.
use Rattle.std.specs.Prelude.{◌≡◌, ℕ, ◌+◌, ◌<◌, ◌≤◌, List, ◌++◌, length}
use Rattle.fm_base.specs.Calls.{Entry}
use Rattle.fm_rule_facts.specs.{Hands.{last_term}, Views.{View}}
use Rattle.fm_records_query.specs.Plan.{Plan}
use Rattle.fm_records.specs.Shares.{AreSpared}
use Rattle.fm_rule.specs.{declared.pool.Pool.{Pool}, Finishing.{FinishedView}}
use Rattle.fm_segment.specs.Region.{Region}
use Rattle.fm_top_pooled.specs.{Shown.{AreRead, AsksWord, IsHistory}, Stocked.{IsStockedOf, bytes_in_pool, pool_passes}}

-- so many passes are a crew
pub record IsCrew (threads : ℕ) : Type 0 where
  pub some : 0 < threads
  pub few : threads ≤ 16

-- such a crew can be drawn still: the pool has a number for each of its passes, and no number was drawn as often as can be counted
pub record HasPasses (p : View) (threads : ℕ) : Type 0 where
  pub left : length p.gathered + threads < last_term
  pub crew : IsCrew threads

-- At most so many passes were drawn; the records stood, nobody changed them, and then others have read each word that is asked for
pub record AskedOf (passes threads : ℕ) (pool : Pool) (old new : View) (p : Plan) (s : Region) : Type 0 where
  pub before : IsStockedOf passes pool old s
  pub stocked : IsStockedOf passes pool new s
  pub same : bytes_in_pool new s ≡ bytes_in_pool old s
  pub more : List Entry
  pub seen : new.seen ≡ old.seen ++ more
  pub spared : AreSpared s more
  pub read : AreRead more (AsksWord p (bytes_in_pool old s)) s.arena
  pub drawn : length new.gathered ≤ length old.gathered + threads

abbrev pub Asked : (threads : ℕ) → Pool → View → View → Plan → Region → Type 0
Asked threads pool old new p s = AskedOf pool_passes threads pool old new p s

-- the pool is of this shape, and its history all that the pass has seen
pub record KeepsHistory (p : View) (f : FinishedView) : Type 0 where
  pub is_history : IsHistory f
  pub shape : f.shape ≡ p.shape
  pub history : f.history ≡ p.seen
