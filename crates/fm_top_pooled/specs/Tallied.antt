-- Counts in a second arena of the pool in which records stand.
use Rattle.std.specs.Prelude.{◌≡◌, ◌%◌, ℕ}
use Rattle.fm_rule_facts.specs.Views.{View}
use Rattle.fm_rule.specs.declared.pool.Pool.{Pool}
use Rattle.fm_segment.specs.Region.{Region}
use Rattle.fm_records_query.specs.Plan.{Plan}
use Rattle.fm_workers.specs.Counts.{IsTally}
use Rattle.fm_top_pooled.specs.{Besides.{IsBeside}, Stocked.{IsStocked}}

-- how many bytes 256 longs take
abbrev pub counts_size : ℕ
counts_size = 2048

-- a query counts over records, of which there is a whole number, into an arena beside them
pub record CanCount (pool : Pool) (p : View) (s counts : Region) (q : Plan) : Type 0 where
  pub stocked : IsStocked pool p s
  pub beside : IsBeside p s counts counts_size
  pub tally : IsTally q
  pub even : s.size % q.size ≡ 0
