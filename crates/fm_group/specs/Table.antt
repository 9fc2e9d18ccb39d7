-- A table of places in a segment, each with a claim and a count.
use Rattle.std.specs.Prelude.{◌≡◌, ◌≢◌, ℕ, ◌+◌, ◌*◌, ◌/◌, ◌%◌, ◌<◌, nat_lt, false, if◌then◌else◌, ℤ, Option, Some, None}
use Rattle.std.proofs.Common.{zero, suc}
use Rattle.fm_segment.specs.Region.{EndsByLimit, Region}
use Rattle.fm_group.specs.{Order.{in_order}, Values.{AreValued, Valued, count_of}, declared.order.PlaceOrder.{PlaceOrder}}

-- it may be written, lies in another arena than the records, and has whole places
pub record IsTable (v : Valued) (t : Region) : Type 0 where
  pub written : t.read_only ≡ false
  pub apart : t.arena ≢ v.records.arena
  pub aligned : t.first % 8 ≡ 0
  pub some : 0 < t.size
  pub even : t.size % 16 ≡ 0
  pub ends : EndsByLimit t.first t.size

abbrev pub places_in : Region → ℕ
places_in t = t.size / 16

-- the words of a place
abbrev pub claim_word : Region → ℕ → ℕ
claim_word t p = t.first / 8 + 2 * p

abbrev pub count_word : Region → ℕ → ℕ
count_word t p = t.first / 8 + (2 * p + 1)

-- the value that a claim names: its ordinal is one less than the claim, where there is such a value
abbrev pub named_by : Valued → ℕ → Option ℕ
named_by v zero = None
named_by v (suc n) = if nat_lt n (count_of v) then Some n else None

-- a table, the values that it counts, and the order of its places
pub record Counter : Type 0 where
  pub table : Region
  pub values : Valued
  pub order : PlaceOrder

abbrev pub counter : Region → Valued → PlaceOrder → Counter
counter table values order = record { table = table; values = values; order = order }

-- the place that is tried for a number after k others
abbrev pub tried_at : Counter → ℤ → ℕ → ℕ
tried_at w x k = in_order w.order (places_in w.table) x k

pub record CanTable (w : Counter) : Type 0 where
  pub values : AreValued w.values
  pub table : IsTable w.values w.table
