-- The bytes that the arenas of a finished pool have given.
use Rattle.std.specs.Prelude.{◌≢◌, ℕ, Bool, true, false, List, [], take}
use Rattle.fm_base_bytes.specs.Words.{bytes_in}
use Rattle.fm_base.specs.{declared.arena_id.ArenaId.{ArenaId}, Arenas.{State, Alive, arena_of}, Histories.{state_after}}
use Rattle.fm_rule_facts.specs.{Views.{Fits, limit_of}, Rest.{ShowsArena}}
use Rattle.fm_rule.specs.Finishing.{FinishedView}

-- the state that the history leaves
abbrev pub state_of : FinishedView → State
state_of f = state_after (limit_of f.shape) [] f.history

-- the bytes that the arena has given
abbrev pub given_bytes : FinishedView → ArenaId → List ℕ
given_bytes f a = take (arena_of (state_of f) a).given (bytes_in (arena_of (state_of f) a).words)

-- the arena is alive, and the words show it
pub record HasBytes (f : FinishedView) (a : ArenaId) : Type 0 where
  pub fits : Fits f.shape a
  pub shows : ShowsArena f.shape f.words (state_of f) a

-- whether the arena is alive
abbrev pub TellsAlive : FinishedView → ArenaId → Bool → Type 0
TellsAlive f a true = HasBytes f a
TellsAlive f a false = (arena_of (state_of f) a).life ≢ Alive
