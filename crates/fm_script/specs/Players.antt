-- What a worker of a script does: its lines, as the pass that was drawn for it.
use Rattle.std.specs.Prelude.{◌≡◌, ℕ, ◌+◌, ◌<◌, ◌≤◌, [], List, get_or, map, length, All, None, OnOk, Result, vec_capacity}
use Rattle.fm_base.specs.Calls.{Entry}
use Rattle.fm_rule_facts.specs.Views.{View}
use Rattle.fm_script_text.specs.declared.line.Line.{Line}
use Rattle.fm_script_lines.specs.{declared.{numbers.Numbers.{Numbers}, standing.Standing.{Standing}}, Admitted.{AreNumbered, KeepRules}, Numbers.{number_at}}
use Rattle.fm_script_lines.specs.{Playing.{LinesRan}, Report.{is_worker, lines_by, runs}, Runs.{Went}, Standings.{IsBacked, lent, standing_as}}
use Rattle.fm_script.specs.declared.player.Player.{Player}

-- what all workers of a script play over: its lines, their numbers, and what the first lines' names stand for
pub record Playing : Type 0 where
  pub names : Numbers
  pub lines : List Line
  pub firsts : List Standing

abbrev pub playing : Numbers → List Line → List Standing → Playing
playing names lines firsts = record { names = names; lines = lines; firsts = firsts }

-- the lines that a worker plays
abbrev pub lines_for : Playing → Player → List Line
lines_for w p = lines_by (is_worker p.number) w.lines

-- the worker of a number, that has played nothing; it has room for what its lines come to
pub record IsPlayer (lines : List Line) (k place : ℕ) (p : Player) : Type 0 where
  pub number : p.number ≡ k
  pub start : p.start ≡ place
  pub whole : p.cut ≡ None
  pub no_reply : p.replies.items ≡ []
  pub no_name : p.lent.items ≡ []
  pub room : length (lines_by (is_worker k) lines) ≤ vec_capacity p.replies
  pub names_room : length (lines_by (is_worker k) lines) ≤ vec_capacity p.lent

-- workers from number 1 on, whose first lines have these places
pub record ArePlayers (lines : List Line) (starts : List ℕ) (ps : List Player) : Type 0 where
  pub many : length ps ≡ length starts
  pub each : (k : ℕ) (d : Player) → k < length starts → IsPlayer lines (k + 1) (get_or starts k 0) (get_or ps k d)

-- it can play over the first lines' names, as one who has seen so much
pub record CanPlay (w : Playing) (v : View) (p : Player) : Type 0 where
  pub rules : KeepRules w.lines
  pub known : All (λ s. IsBacked v (lent s)) w.firsts
  pub worker : 1 ≤ p.number
  pub player : IsPlayer w.lines p.number p.start p
  pub behind : length w.firsts ≤ p.start
  pub numbered : AreNumbered (number_at w.names) p.start (lines_for w p)

-- its lines ran, behind which the pass is like this, and these entries are theirs
pub record PlaysLines (w : Playing) (p : View) (old new : Player) (own : List Entry) : Type 0 where
  pub before : View
  pub next : List Standing
  pub ran : LinesRan before p w.names w.firsts old.start [] next (lines_for w old) new.replies.items
  pub runs : own ≡ runs ran.dones
  -- its names, as others may use them
  pub lent : map standing_as new.lent.items ≡ map lent next

-- what becomes of a worker by the entries of a pass that is like this in the end: it has played its lines, unless memory was wanting
pub record Plays (w : Playing) (p : View) (old new : Player) (own : List Entry) : Type 0 where
  pub number : new.number ≡ old.number
  pub start : new.start ≡ old.start
  pub caller : new.caller ≡ p.caller
  pub played : new.cut ≡ None → PlaysLines w p old new own

-- A pass did so as the worker, and has what it had before
pub record PlayedAs {E : Type 0} (w : Playing) (before after : View) (old new : Player) (result : Result (Unit {0}) E) : Type 0 where
  pub run : List Entry
  pub went : Went before after run
  pub outside : after.inside ≡ None
  pub same_holds : after.holds ≡ before.holds
  pub same_handles : after.handles ≡ before.handles
  pub number : new.number ≡ old.number
  pub start : new.start ≡ old.start
  pub played : OnOk result (PlaysLines w after old new run)
