-- What a pass's lines in a row do.
use Rattle.std.specs.Prelude.{◌≡◌, ℕ, ◌+◌, true, length, map, None, List, [], ◌∷◌, ◌++◌}
use Rattle.fm_base.specs.{Histories.{made_by}, Outcomes.{Lasts}}
use Rattle.fm_rule_facts.specs.Views.{View}
use Rattle.fm_rule_calls.specs.Told.{view_of_pass}
use Rattle.fm_arena.specs.Opening.{HasNoSlot}
use Rattle.fm_script_text.specs.declared.line.Line.{Line}
use Rattle.fm_script_lines.specs.{declared.{numbers.Numbers.{Numbers}, reply.Reply.{Reply}, standing.Standing.{Standing}}, Calls.{takes_memory}}
use Rattle.fm_script_lines.specs.{Numbers.{number_at}, Pages.{AllocatesRightly, EachBehind, FindsFew, LendsRightly}}
use Rattle.fm_script_lines.specs.{Report.{Done, AreRun, lines_of, names_after, runs}, Runs.{Went}, Slots.{AreFound, OpenRightly}, Standings.{standing_at}}

-- The next of the pass's own lines ran, and were replied to so
pub record LinesRan (old new : View) (names : Numbers) (base : List Standing) (start : ℕ) (own next : List Standing) (lines : List Line)
    (replies : List Reply) : Type 0 where
  pub dones : List Done
  pub are : lines_of dones ≡ lines
  pub replied : map (λ d. d.reply) dones ≡ replies
  pub calls : AreRun old.caller (number_at names) (start + length own) (standing_at base start own) dones
  pub went : Went old new (runs dones)
  pub outside : new.inside ≡ None
  pub lasts : Lasts (view_of_pass old) (view_of_pass new)
  pub many : length next ≡ length own + length dones
  pub stands : standing_at base start next ≡ names_after (number_at names) (start + length own) dones (standing_at base start own)
  -- where the pass is by itself its lines are refused exactly where no slot is free; whenever one is, the pass found none
  pub exact : old.whole ≡ true → HasNoSlot old → OpenRightly old.shape old.seen dones
  pub found : AreFound old.caller new.finds new.seen (made_by old.caller old.seen) dones
  -- the same of pages, where it has no close under way; and whom they lend pages
  pub full : old.whole ≡ true → old.closes ≡ [] → HasNoSlot old → EachBehind (AllocatesRightly old.shape) old.seen dones
  pub few : EachBehind (FindsFew old.shape old.caller new.seen) (made_by old.caller old.seen) dones
  pub loans : EachBehind (LendsRightly old.shape old.caller new.seen) (made_by old.caller old.seen) dones

-- Memory was wanting to one of the lines, whose call takes memory of its own: those before it ran, and it made no call
pub record StopsAt (old new : View) (names : Numbers) (base : List Standing) (start : ℕ) (own next : List Standing) (lines : List Line)
    (replies : List Reply) : Type 0 where
  pub before : List Line
  pub line : Line
  pub behind : List Line
  pub parts : lines ≡ before ++ line ∷ behind
  pub takes : takes_memory line.command ≡ true
  pub ran : LinesRan old new names base start own next before replies
