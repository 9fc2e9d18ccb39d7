-- What visits of an arena's marks do, one after another.
use Rattle.std.specs.Prelude.{◌≡◌, ◌≢◌, ℕ, ◌+◌, ◌≤◌, Bool, true, false, List, [], ◌∷◌, ◌++◌, length, Option, Some, None}
use Rattle.fm_base.specs.{declared.{caller.Caller.{Caller}, arena_id.ArenaId.{ArenaId}}, Calls.{End, Fine, Entry, entry_of}, Finds.{Close, Sweep, Find, Visits}}
use Rattle.fm_rule_facts.specs.{Views.{View}, Closes.{walk_of, dropped}, Words.{mark_of}}
use Rattle.fm_rule.specs.declared.pool.Pool.{Pool}
use Rattle.fm_rule_calls.specs.Kept.{Goes, HasEnded, Lasts, rest_of}
use Rattle.fm_gate.specs.Needs.{IsOutside}
use Rattle.fm_close.specs.{declared.shutting.Shutting.{Shutting}, CloseLaws.{StandsBy}}

-- the entries of visits by which the arena has ended, or hasn't
abbrev pub entries_by : (ended : Bool) → Caller → ArenaId → List Entry
entries_by true c a = entry_of c (End a) Fine ∷ []
entries_by false c a = []

-- the close is gone, or is among the others, which are as they were
abbrev pub ClosesBy : (ended : Bool) → ArenaId → List Close → List Close → Type 0
ClosesBy true a old new = new ≡ dropped a old
ClosesBy false a old new = dropped a new ≡ dropped a old

-- the arenas that a pass has to sweep then
abbrev pub sweeps_by : (ended : Bool) → ArenaId → List Sweep → List Sweep
sweeps_by true a cs = walk_of a 0 ∷ cs
sweeps_by false a cs = cs

-- Marks were visited, one after another; the arena has ended, or the next mark is to be visited
pub record Visited (pool : Pool) (old new : View) (s t : Shutting) : Type 0 where
  pub goes : Goes old new (entries_by t.ended old.caller s.arena)
  pub rest : rest_of new ≡ record (rest_of old) { closes = new.closes; sweeps = sweeps_by t.ended s.arena old.sweeps }
  pub closes : ClosesBy t.ended s.arena old.closes new.closes
  pub arena : t.arena ≡ s.arena
  pub stands : StandsBy t.ended new t
  pub over : t.ended ≡ true → HasEnded new s.arena
  pub outside : IsOutside pool new

-- The last of the visits loaded mark k, which names the arena, and isn't the pass's own
pub record IsBlocked (old new : View) (t : Shutting) (k : ℕ) : Type 0 where
  pub more : List Find
  pub find : Find
  pub grown : new.finds ≡ (old.finds ++ more) ++ find ∷ []
  pub step : find.step ≡ Visits t.arena k
  pub names : find.found ≡ mark_of t.arena
  pub next : k ≡ t.next
  pub other : k ≢ new.caller.number

-- what stopped the visits: the end of the arena, or mark k
abbrev pub StopsBy : View → View → Shutting → (blocker : Option ℕ) → Type 0
StopsBy old new t None = t.ended ≡ true
StopsBy old new t (Some k) = (t.ended ≡ false) × IsBlocked old new t k

-- of visits up to one that finds a mark of the arena, or to its end
pub record Advanced (pool : Pool) (old new : View) (s t : Shutting) (blocker : Option ℕ) : Type 0 where
  pub visited : Visited pool old new s t
  pub stops : StopsBy old new t blocker
  -- each visit is a find: there are no more of them than marks were left
  pub few : length new.finds + s.next ≤ length old.finds + old.shape.passes
  pub lasts : Lasts old new
