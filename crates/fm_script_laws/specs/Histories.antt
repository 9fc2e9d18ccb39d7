-- Tidy histories of many callers, and tidy histories in parts.
use Rattle.std.specs.{Prelude.{◌≡◌, ℕ, List, [], ◌++◌}, List.{AllByRecursion}}
use Rattle.fm_segment_laws.specs.Accesses.{IsTidyBy}
use Rattle.fm_base.specs.{declared.caller.Caller.{Caller}, Arenas.{State}, Calls.{Entry}, Histories.{IsTidy, made_by, state_after}}
use Rattle.fm_base_lists.specs.Among.{IsAmong}

-- When entries are tidy
pub record TidyInParts : Type 0 where
  -- of callers who made all of them, where each one's are
  pub many : (cs : List Caller) (limit : ℕ) (s : State) (es : List Entry) → AllByRecursion (λ e. IsAmong e.caller cs) es
      → AllByRecursion (λ c. IsTidyBy c limit s es) cs → IsTidy limit s es
  -- behind tidy ones
  pub behind : (limit : ℕ) (s : State) (xs ys : List Entry) → IsTidy limit s xs
      → IsTidy limit (state_after limit s xs) ys → IsTidy limit s (xs ++ ys)
  -- a caller's behind its own tidy ones
  pub behind_own : (c : Caller) (limit : ℕ) (s : State) (xs ys : List Entry) → IsTidyBy c limit s xs
      → IsTidyBy c limit (state_after limit s xs) ys → IsTidyBy c limit s (xs ++ ys)
  -- a caller's where it made none
  pub silent : (c : Caller) (limit : ℕ) (s : State) (es : List Entry) → made_by c es ≡ [] → IsTidyBy c limit s es
