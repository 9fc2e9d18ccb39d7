-- Lines that break no rule, and what is left of what they made.
use Rattle.std.specs.Prelude.{◌≡◌, ℕ, ◌+◌, ◌≤◌, ◌==◌, Bool, true, false, not, ◌&&◌, ◌||◌, length, List, [], ◌∷◌, ◌++◌, Option, Some, All, IfSome, bytes_eq, ⊤}
use Rattle.std.specs.List.{AllByRecursion, list_any}
use Rattle.fm_rule_facts.specs.Views.{View}
use Rattle.fm_script_text.specs.declared.{command.Command.{Command, TheVariants.{Unhold, Back}}, line.Line.{Line}, who.Who.{Who}}
use Rattle.fm_script_text.specs.{Rules.{Made, made, is_owed, pass_of, plays}, Scripts.{AreAdmitted, IsSaid, IsSettled}}
use Rattle.fm_script_text.specs.declared.thing.Role.TheVariants as role
use Rattle.fm_script_lines.specs.{declared.{numbers.Numbers.{Numbers}, reply.Reply.{Reply}, standing.Standing.{Standing}}, Numbers.{number_at, number_from}}
use Rattle.fm_script_lines.specs.{Ordering.{in_order}, Playing.{LinesRan}, Report.{is_first, is_last, is_worker, lines_by}, Standings.{IsSpent}}

-- a script's lines break no rule
pub record KeepRules (ls : List Line) : Type 0 where
  pub said : AllByRecursion IsSaid ls
  pub admitted : AreAdmitted [] ls
  pub settled : AllByRecursion (IsSettled ls) ls

-- ---- what a pass's lines give back

-- the lines of the pass of this number
abbrev pub is_of_pass : ℕ → Who → Bool
is_of_pass k who = pass_of who == k

-- the line gives back the hold or the handle of this name
abbrev pub returns : Made → Command → Bool
returns m (Unhold hold) = plays m.thing role.Hold && bytes_eq hold m.name
returns m (Back handle) = plays m.thing role.Handle && bytes_eq handle m.name
returns m c = false

-- if it has to be given back, one of these lines does so
abbrev pub is_returned : Made → List Line → Bool
is_returned m ls = not (is_owed m.thing) || list_any (λ l. returns m l.command) ls

-- each hold and each handle that a line makes is given back by a line behind it
abbrev pub AreReturned : List Line → Type 0
AreReturned [] = ⊤
AreReturned (l ∷ ls) = IfSome (made l.command) (λ m. is_returned m ls ≡ true) × AreReturned ls

-- ---- numbers

-- the name that a line makes has the line's number, where theirs begin at k
abbrev pub AreNumbered : (List ℕ → Option ℕ) → ℕ → List Line → Type 0
AreNumbered number k [] = ⊤
AreNumbered number k (l ∷ ls) = IfSome (made l.command) (λ m. number m.name ≡ Some k) × AreNumbered number (k + 1) ls

-- ---- what is left

-- A script's lines that break no rule leave nothing
pub record LinesLeaveNothing : Type 0 where
  -- a pass's own lines give back what they made, behind the lines that made it
  pub returned : (ls : List Line) (k : ℕ) → KeepRules ls → AreReturned (lines_by (is_of_pass k) ls)
  -- no two of them make one name, so its number is that of the line that makes it
  pub numbered : (ls : List Line) (workers : ℕ) → KeepRules ls
      → AreNumbered (number_from 0 (in_order workers ls)) 0 (in_order workers ls)
  -- a worker's, run by its pass
  pub worker : (ls : List Line) (k : ℕ) (old new : View) (names : Numbers) (base : List Standing) (start : ℕ)
      (next : List Standing) (replies : List Reply) → KeepRules ls → 1 ≤ k → length base ≤ start
      → AreNumbered (number_at names) start (lines_by (is_worker k) ls)
      → LinesRan old new names base start [] next (lines_by (is_worker k) ls) replies → All IsSpent next
  -- the first and the last, run by one pass: behind the names of the first lines stand the workers', as others may
  -- use them, and behind these those of the last lines
  pub main : (ls : List Line) (p q r t : View) (names : Numbers) (firsts others next : List Standing)
      (replies more : List Reply) → KeepRules ls → AreNumbered (number_at names) 0 (lines_by is_first ls)
      → AreNumbered (number_at names) (length firsts + length others) (lines_by is_last ls)
      → LinesRan p q names [] 0 [] firsts (lines_by is_first ls) replies → All IsSpent others
      → LinesRan r t names [] 0 (firsts ++ others) next (lines_by is_last ls) more → All IsSpent next
