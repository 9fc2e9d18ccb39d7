-- Shares of records, by number.
use Rattle.std.specs.{Prelude.{◌≡◌, ℕ, ◌+◌, ◌-◌, ◌*◌, ◌/◌, ◌%◌, ◌^◌, ◌<◌, ◌≤◌, min, max}, Int.{div_ceil}}
use Rattle.fm_segment.specs.Region.{Region, part_of}
use Rattle.fm_records_query.specs.Plan.{IsPlan, Plan}

-- how many records a share has: the records divided by four times the threads, rounded up, and at least one
abbrev pub each_of : (count threads : ℕ) → ℕ
each_of count threads = max (div_ceil count (4 * threads)) 1

-- how many shares there are of so many records
abbrev pub many_of : (count each : ℕ) → ℕ
many_of count each = div_ceil count each

-- how many records stand before the share of this number
abbrev pub start_of : (count each number : ℕ) → ℕ
start_of count each number = min (number * each) count

-- the records from one index up to another
abbrev pub piece : Plan → Region → (from to : ℕ) → Region
piece p s from to = part_of (from * p.size) ((to - from) * p.size) s

-- the records of the share of this number; past the last share there are none
abbrev pub share_of : Plan → Region → (each number : ℕ) → Region
share_of p s each number = piece p s (start_of (s.size / p.size) each number) (start_of (s.size / p.size) each (number + 1))

-- the records of a segment, of which a query is asked, in shares of so many
pub record Cut : Type 0 where
  pub plan : Plan
  pub segment : Region
  pub each : ℕ

abbrev pub cut : Plan → Region → ℕ → Cut
cut p s each = record { plan = p; segment = s; each = each }

abbrev pub shares_in : Cut → ℕ
shares_in k = many_of (k.segment.size / k.plan.size) k.each

-- whole records, all of them in at most 64 shares
pub record IsCut (k : Cut) : Type 0 where
  pub plan : IsPlan k.plan
  pub even : k.segment.size % k.plan.size ≡ 0
  pub some : 0 < k.each
  pub small : k.segment.size ≤ 2 ^ 40
  pub few : shares_in k ≤ 64
