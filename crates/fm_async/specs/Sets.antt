-- Closes of several arenas by one pass, which are polled together.
use Rattle.std.specs.{Prelude.{◌≡◌, ◌≤◌, ◌<◌, ◌+◌, ◌++◌, ◌∷◌, ◌↔◌, ℕ, true, if◌then◌else◌, List, [], length, None, Result, Ok, Err}, List.{AllByRecursion}}
use Rattle.fm_base.specs.declared.{arena_id.ArenaId.{ArenaId}, refusal.Refusal.{Refusal}}
use Rattle.fm_base.specs.{Calls.{Shut, End, Fine, entry_of}, Histories.{made_by}}
use Rattle.fm_rule_facts.specs.Views.{View, In, IsKnown, IsSound}
use Rattle.fm_rule.specs.declared.pool.Pool.{Pool}
use Rattle.fm_rule_calls.specs.Kept.{KeptAs, HasEnded, HasNoWords, Lasts, rest_of}
use Rattle.fm_gate.specs.Needs.{IsOutside}
use Rattle.fm_close.specs.{declared.shutting.Shutting.{Shutting}, CloseLaws.{StandTogether}, Does.{AreBacks}, Learnt.{AfterShut}}
use Rattle.fm_async.specs.declared.waiting.Waiting.{Waiting}

-- what contracts see of a set: its closes stand in the order of adding
pub record SetView : Type 0 where
  pub pool : Pool
  pub pass : View
  pub room : ℕ
  pub closes : List Waiting

abbrev pub set_of : Pool → View → (room : ℕ) → List Waiting → SetView
set_of pool p room ws = record { pool = pool; pass = p; room = room; closes = ws }

abbrev pub closes_of : List Waiting → List Shutting
closes_of [] = []
closes_of (w ∷ ws) = w.close ∷ closes_of ws

-- how many of the arenas haven't ended
abbrev pub unfinished : List Shutting → ℕ
unfinished [] = 0
unfinished (s ∷ ss) = if s.ended then unfinished ss else unfinished ss + 1

-- Among the pass's own entries is the Shut of the arena, and its End exactly where it has ended
pub record HasEntries (p : View) (s : Shutting) : Type 0 where
  pub shut : In (entry_of p.caller (Shut s.arena) Fine) (made_by p.caller p.seen)
  pub over : (s.ended ≡ true) ↔ In (entry_of p.caller (End s.arena) Fine) (made_by p.caller p.seen)

-- The pass is outside, and has these closes, each of an arena of its own, and no others
pub record IsSet (pool : Pool) (p : View) (ss : List Shutting) : Type 0 where
  pub sound : IsSound p
  pub outside : IsOutside pool p
  pub stand : StandTogether p ss
  pub mine : AllByRecursion (HasEntries p) ss
  pub closes : length p.closes ≡ unfinished ss
  pub sweeps : length p.sweeps + unfinished ss ≡ length ss

-- so has the pass of a set that has room for all of them
pub record IsSetCloser (c : SetView) : Type 0 where
  pub set : IsSet c.pool c.pass (closes_of c.closes)
  pub few : length c.closes ≤ c.room
  pub most : c.room ≤ 64

-- outside, and it has no close that isn't swept
pub record CanBegin (pool : Pool) (p : View) : Type 0 where
  pub outside : IsOutside pool p
  pub no_close : p.closes ≡ []
  pub no_sweep : p.sweeps ≡ []

-- there is room for one arena more, which is known
pub record CanAdd (c : SetView) (id : ArenaId) : Type 0 where
  pub room : length c.closes < c.room
  pub known : IsKnown c.pass id

-- a close that wasn't polled yet
abbrev pub waiting_of : Shutting → Waiting
waiting_of s = record { close = s; blocker = None }

-- the closes after an arena was to be added: its own comes last, or a refusal leaves them
abbrev pub Adds : SetView → SetView → ArenaId → Result (Unit {0}) Refusal → Type 0
Adds old new id (Ok done) =
    (s : Shutting) × AfterShut old.pool old.pass new.pass id (Ok s)
    × (new.closes ≡ old.closes ++ waiting_of s ∷ [])
Adds old new id (Err r) = AfterShut old.pool old.pass new.pass id (Err r) × (new.closes ≡ old.closes)

-- of `add`
pub record AfterAdd (old new : SetView) (id : ArenaId) (result : Result (Unit {0}) Refusal) : Type 0 where
  pub pool : new.pool ≡ old.pool
  pub room : new.room ≡ old.room
  pub adds : Adds old new id result
  pub most : length new.closes ≤ length old.closes + 1
  pub lasts : Lasts old.pass new.pass
  pub is : IsSetCloser new

-- All arenas of the closes were swept: the pass's own entries take back their pages
pub record SweepsAll (old new : View) (ss : List Shutting) : Type 0 where
  pub did : KeptAs old new (record (rest_of old) { sweeps = new.sweeps }) (AreBacks old.caller)
  pub ended : AllByRecursion (λ s. HasEnded new s.arena) ss
  pub no_words : AllByRecursion (λ s. HasNoWords new s.arena) ss
  pub lasts : Lasts old new

-- of `sweep`
pub record AfterSweepAll (old new : SetView) : Type 0 where
  pub pool : new.pool ≡ old.pool
  pub room : new.room ≡ old.room
  pub empty : new.closes ≡ []
  pub sweeps : SweepsAll old.pass new.pass (closes_of old.closes)
  pub is : IsSetCloser new
