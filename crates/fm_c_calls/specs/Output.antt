-- What is put into a caller's memory.
use Rattle.std.specs.Prelude.{◌≡◌, ℕ, List, ◌++◌, length, take, drop}

-- the first of these that there is room for, and behind them what stood there
abbrev pub filled : {X : Type 0} → List X → List X → List X
filled old xs = take (length old) xs ++ drop (length xs) old

-- they were put so, and so many they are in all
pub record Fills {X : Type 0} (old new xs : List X) (count : ℕ) : Type 0 where
  pub put : new ≡ filled old xs
  pub counted : count ≡ length xs
