-- Counts that never fall, and stand still at their last value.
use Rattle.std.specs.Prelude.{◌≡◌, ℕ, ◌+◌, ◌≤◌, min}

-- the greatest u64
abbrev pub last_count : ℕ
last_count = 18446744073709551615

-- the count rose in this call, or stands at its last value
abbrev pub Rose : ℕ → ℕ → Type 0
Rose before now = min (before + 1) last_count ≤ now

-- the count rose by one, or stands at its last value
abbrev pub Raised : ℕ → ℕ → Type 0
Raised before now = now ≡ min (before + 1) last_count

-- What a call leaves of a count: with a cause it rose by this much, and with none it is as it was. It never falls.
pub record Counts (By : ℕ → ℕ → Type 0) (Cause : Type 0) (before now : ℕ) : Type 0 where
  pub rose : Cause → By before now
  pub quiet : ¬ Cause → now ≡ before
  pub stays : before ≤ now
