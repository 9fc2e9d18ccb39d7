-- Lines of a pass are tidy: they change only bytes that their arenas had given.
use Rattle.std.specs.{Prelude.{ℕ, ◌<◌, List, [], ⊤}, List.{AllByRecursion}}
use Rattle.fm_segment_laws.specs.Accesses.{IsTidyBy}
use Rattle.fm_base.specs.Histories.{IsLegal}
use Rattle.fm_rule_facts.specs.Views.{View, limit_of, state_in}
use Rattle.fm_script_lines.specs.{declared.{numbers.Numbers.{Numbers}, reply.Reply.{Reply}, standing.Standing.{Standing}}, Lines.{LineRan}, Playing.{LinesRan}}
use Rattle.fm_script_lines.specs.Tokens.{IsReady}
use Rattle.fm_script_text.specs.declared.{command.Command.{Command, TheVariants.{Fill}}, line.Line.{Line}}

-- what it fills with, if anything, is a byte
abbrev pub FillsWithByte : Command → Type 0
FillsWithByte (Fill segment byte) = byte < 256
FillsWithByte c = ⊤

-- A pass's next line: its own entries are tidy, each in the state in which it was made
abbrev pub LineIsTidy : Type 0
LineIsTidy =
    (old new : View) (names : Numbers) (base : List Standing) (start : ℕ) (own next : List Standing)
    (command : Command) (reply : Reply)
    (ran : LineRan old new names base start own next command reply)
    → IsReady old base own → IsLegal (limit_of new.shape) [] new.seen → FillsWithByte command
    → IsTidyBy old.caller (limit_of old.shape) (state_in old) ran.went.more

-- So are those of its next lines in a row
abbrev pub LinesAreTidy : Type 0
LinesAreTidy =
    (old new : View) (names : Numbers) (base : List Standing) (start : ℕ) (own next : List Standing)
    (lines : List Line) (replies : List Reply)
    (ran : LinesRan old new names base start own next lines replies)
    → IsReady old base own → IsLegal (limit_of new.shape) [] new.seen
    → AllByRecursion (λ l. FillsWithByte l.command) lines
    → IsTidyBy old.caller (limit_of old.shape) (state_in old) ran.went.more
