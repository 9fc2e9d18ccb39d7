-- Limits of a number.
use Rattle.std.specs.Prelude.{ℕ, ◌≤◌}

-- a number lies between two others, or is one of them
abbrev pub Within : ℕ → ℕ → ℕ → Type 0
Within low high n = (low ≤ n) × (n ≤ high)
