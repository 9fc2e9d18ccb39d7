-- How a handle of an automatic arena is given back.
use Rattle.std.specs.Prelude.{ℕ, ◌-◌, ◌==◌, Bool, true, false, List, [], ◌∷◌, Option, Some, None}
use Rattle.fm_base.specs.{declared.{caller.Caller.{Caller}, arena_id.ArenaId.{ArenaId}}, Calls.{Unhold, Shut, Fine, Entry, entry_of}, Finds.{Close}}
use Rattle.fm_rule_facts.specs.{Views.{View}, Words.{alive_holds, closing_word}, Holds.{released}, Closes.{walk_of}}

-- what comes of it
pub data Giving : Type 0 where
  -- another word was found than the expected one
  Missed : Giving
  -- others are left
  Kept : Giving
  -- it was the last one
  Last : Giving

abbrev pub last_if : Bool → Giving
last_if true = Last
last_if false = Kept

abbrev pub giving_by : Option ℕ → Giving
giving_by None = Missed
giving_by (Some holds) = last_if (holds == 0)

-- where the expected word, which shows so many holds, was found or wasn't
abbrev pub giving : Bool → Option ℕ → Giving
giving true holds = giving_by holds
giving false holds = Missed

-- the handles after it
abbrev pub handles_given : ArenaId → Giving → List ArenaId → List ArenaId
handles_given a Missed hs = hs
handles_given a Kept hs = released a hs
handles_given a Last hs = released a hs

-- the closes after it
abbrev pub closes_given : ArenaId → Giving → List Close → List Close
closes_given a Missed cs = cs
closes_given a Kept cs = cs
closes_given a Last cs = walk_of a 0 ∷ cs

abbrev pub given_back : ArenaId → Giving → View → View
given_back a g v = record v { closes = closes_given a g v.closes; handles = handles_given a g v.handles }

abbrev pub giving_entries : ArenaId → Giving → Caller → List Entry
giving_entries a Missed c = []
giving_entries a Kept c = entry_of c (Unhold a) Fine ∷ []
giving_entries a Last c = entry_of c (Shut a) Fine ∷ []

abbrev pub word_given : ArenaId → ℕ → Giving → ℕ
word_given a word Missed = word
word_given a word Kept = word - 1
word_given a word Last = closing_word a

-- the session word that it leaves
unfoldable pub back_word : ArenaId → ℕ → ℕ
back_word a word = word_given a word (giving_by (alive_holds a word))
