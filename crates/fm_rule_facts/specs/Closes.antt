-- Closes that were begun and not finished, sweeps of arenas that ended, and what a visit of a mark does to them.
use Rattle.std.specs.Prelude.{ℕ, ◌+◌, ◌==◌, Bool, true, false, if◌then◌else◌, List, [], ◌∷◌, Option, Some, None}
use Rattle.fm_base.specs.{declared.{caller.Caller.{Caller}, arena_id.ArenaId.{ArenaId}}, Arenas.{same_id}, Calls.{End, Reply, Fine, Entry, entry_of}}
use Rattle.fm_base.specs.Finds.{Stretch, Walk, Close, Sweep}
use Rattle.fm_words.specs.declared.shape.Shape.{Shape}
use Rattle.fm_rule_facts.specs.Words.{mark_of}

abbrev pub walk_of : {s : Stretch} → ArenaId → ℕ → Walk s
walk_of a k = record { arena = a; passed = k }

-- the closes after a Shut that was answered so
abbrev pub begun : ArenaId → Reply → List Close → List Close
begun a Fine cs = walk_of a 0 ∷ cs
begun a reply cs = cs

-- how far the first walk of the arena is
abbrev pub passed_of : {s : Stretch} → List (Walk s) → ArenaId → Option ℕ
passed_of [] a = None
passed_of (c ∷ cs) a = if same_id c.arena a then Some c.passed else passed_of cs a

abbrev pub one_more : {s : Stretch} → Walk s → Walk s
one_more c = record c { passed = c.passed + 1 }

-- the first walk of the arena has passed one more
abbrev pub advanced : {s : Stretch} → ArenaId → List (Walk s) → List (Walk s)
advanced a [] = []
advanced a (c ∷ cs) = if same_id c.arena a then one_more c ∷ cs else c ∷ advanced a cs

-- without the first walk of the arena
abbrev pub dropped : {s : Stretch} → ArenaId → List (Walk s) → List (Walk s)
dropped a [] = []
dropped a (c ∷ cs) = if same_id c.arena a then cs else c ∷ dropped a cs

-- what a visit of a mark finds
pub data Visit : Type 0 where
  Inside : Visit
  Next : Visit
  Ended : Visit

abbrev pub visit_by : Bool → Bool → Visit
visit_by true last = Inside
visit_by false true = Ended
visit_by false false = Next

-- the mark of number k had this word
abbrev pub visit_found : Shape → ArenaId → ℕ → ℕ → Visit
visit_found z a k word = visit_by (word == mark_of a) (k + 1 == z.passes)

abbrev pub closes_after : ArenaId → Visit → List Close → List Close
closes_after a Inside cs = cs
closes_after a Next cs = advanced a cs
closes_after a Ended cs = dropped a cs

-- where the arena ended, its sweep begins
abbrev pub sweeps_after : ArenaId → Visit → List Sweep → List Sweep
sweeps_after a Inside cs = cs
sweeps_after a Next cs = cs
sweeps_after a Ended cs = walk_of a 0 ∷ cs

abbrev pub visit_entries : ArenaId → Visit → Caller → List Entry
visit_entries a Inside c = []
visit_entries a Next c = []
visit_entries a Ended c = entry_of c (End a) Fine ∷ []
