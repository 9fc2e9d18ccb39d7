-- What a pass's next line does, to the pass and to what names stand for.
use Rattle.std.specs.Prelude.{◌≡◌, ℕ, ◌+◌, ◌==◌, Bool, true, false, if◌then◌else◌, length, None, Option, Some, List}
use Rattle.fm_base.specs.{declared.arena_id.ArenaId.{ArenaId}, Calls.{Entry}, Outcomes.{Lasts}}
use Rattle.fm_rule_facts.specs.Views.{View}
use Rattle.fm_rule_calls.specs.Told.{view_of_pass}
use Rattle.fm_script_text.specs.declared.command.Command.{Command}
use Rattle.fm_script_text.specs.declared.command.Command.TheVariants as command
use Rattle.fm_script_lines.specs.{declared.{numbers.Numbers.{Numbers}, reply.Reply.{Reply}, standing.Standing.{Standing}}, Calls.{CallDoes}}
use Rattle.fm_script_lines.specs.{Numbers.{number_at}, Outcomes.{outcome}, Pages.{PagesToldBy}, Runs.{Went}, Slots.{SlotsTold, opens}}
use Rattle.fm_script_lines.specs.Standings.{handed_back, handle_of, hold_of, standing_at, standing_of, unheld}

abbrev pub is_number : Option ℕ → ℕ → Bool
is_number None n = false
is_number (Some m) n = n == m

-- what the name of this number stands for behind a line that ran, where it stood for this
abbrev pub behind : (List ℕ → Option ℕ) → Command → ℕ → Standing → Standing
behind number (command.Unhold hold) n s = if is_number (number hold) n then unheld s else s
behind number (command.Back handle) n s = if is_number (number handle) n then handed_back s else s
behind number c n s = s

-- the hold that the line gives back, and the handle, where names stand for this
abbrev pub hold_back : (List ℕ → Standing) → Command → Option ArenaId
hold_back stands (command.Unhold hold) = hold_of (stands hold)
hold_back stands c = None

abbrev pub handle_back : (List ℕ → Standing) → Command → Option ArenaId
handle_back stands (command.Back handle) = handle_of (stands handle)
handle_back stands c = None

-- The next of the pass's own lines ran
pub record LineRan (old new : View) (names : Numbers) (base : List Standing) (start : ℕ) (own next : List Standing) (command : Command) (reply : Reply)
    : Type 0 where
  pub made : Standing
  pub run : List Entry
  pub does : CallDoes old.caller (λ name. standing_of base start own (number_at names name)) command (outcome reply made) run
  pub went : Went old new run
  pub outside : new.inside ≡ None
  pub lasts : Lasts (view_of_pass old) (view_of_pass new)
  -- its name stands for what it made, and a hold or handle that it gave back is none any more
  pub one_more : length next ≡ length own + 1
  pub stands : (n : ℕ) → standing_at base start next n
      ≡ (if n == start + length own then made else behind (number_at names) command n (standing_at base start own n))
  -- where it opens an arena, what it tells of slots
  pub slots : opens command ≡ true → SlotsTold old new reply
  -- where it allocates, what it tells of pages
  pub pages : PagesToldBy (λ name. standing_of base start own (number_at names name)) old new command reply
