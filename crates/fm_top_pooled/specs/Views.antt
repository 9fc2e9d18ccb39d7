-- Bytes in a pool of their own, as they are seen.
use Rattle.std.specs.Prelude.{ℕ, List}

-- the bytes, and how many another arena can have beside theirs
pub record PooledView : Type 0 where
  pub bytes : List ℕ
  pub beside : ℕ
