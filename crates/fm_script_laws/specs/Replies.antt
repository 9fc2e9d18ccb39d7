-- No line of a script is answered that memory was wanting, and only one that allocates that a page was.
use Rattle.std.specs.{Prelude.{◌≡◌, ◌≢◌, Bool, true, false, List}, List.{AllByRecursion}}
use Rattle.fm_base.specs.{declared.refusal.Refusal.TheVariants.{Memory, PoolFull}, Calls.{Entry}}
use Rattle.fm_script_text.specs.{declared.command.Command.{Command}, Scripts.{ScriptOf}}
use Rattle.fm_script_text.specs.declared.command.Command.TheVariants as command
use Rattle.fm_script_lines.specs.{declared.reply.Reply.{Reply, TheVariants.{Refused}}, Report.{IsReport, Played, all_done}}

-- the line allocates
abbrev pub allocates : Command → Bool
allocates (command.Alloc arena name size align) = true
allocates c = false

-- it tells of no such want
pub record TellsNoWant (c : Command) (reply : Reply) : Type 0 where
  pub memory : reply ≢ Refused Memory
  pub page : reply ≡ Refused PoolFull → allocates c ≡ true

-- No line of a report does
abbrev pub NoLineWants : Type 0
NoLineWants =
    (s : ScriptOf) (history : List Entry) (p : Played) → IsReport s history p
    → AllByRecursion (λ d. TellsNoWant d.line.command d.reply) (all_done p)
