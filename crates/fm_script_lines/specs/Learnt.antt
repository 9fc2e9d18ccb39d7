-- What running lines over a table of names asks for, and what is learnt of it.
use Rattle.std.specs.Prelude.{◌≡◌, ℕ, ◌+◌, ◌<◌, ◌≤◌, true, length, map, vec_capacity, List, [], Vec, Option, None, Result, All, IfOk, OnOk, OnErr}
use Rattle.std.specs.declared.alloc.Global.{Global}
use Rattle.fm_base.specs.declared.arena_id.ArenaId.{ArenaId}
use Rattle.fm_rule_facts.specs.Views.{View}
use Rattle.fm_script_text.specs.{declared.{command.Command.{Command}, line.Line.{Line}, who.Who.{Who}}, Syntax.{IsSpelled}}
use Rattle.fm_script_lines.specs.declared.{bound.Bound.{Bound}, numbers.Numbers.{Numbers}, outcome.LineOutcome.{LineOutcome}, reply.Reply.{Reply}}
use Rattle.fm_script_lines.specs.{declared.{standing.Standing.{Standing}, table.Table.{Table}}, Calls.{CallDoes, takes_memory}}
use Rattle.fm_script_lines.specs.{Lines.{LineRan, behind, handle_back, hold_back}, Numbers.{number_at}, Ordering.{is_by}, Pages.{PagesToldBy}}
use Rattle.fm_script_lines.specs.{Playing.{LinesRan, StopsAt}, Report.{lines_by}, Runs.{RanLineWith, WentOn}, Slots.{SlotsTold, opens}}
use Rattle.fm_script_lines.specs.{Standings.{IsBacked, IsSpent, lent, standing_as, standing_at, standing_of}, Tables.{Took}}
use Rattle.fm_script_lines.specs.Tokens.{Backs, BacksWith, IsReady, without}

-- what the names of a table's lines stand for
abbrev pub stands_by : Table → List ℕ → Standing
stands_by t name = standing_of t.base.now t.start t.own.items (number_at t.names.now name)

-- the table still has its numbers, others' names and its room
pub record KeepsTable (old new : Table) : Type 0 where
  pub names : new.names ≡ old.names
  pub base : new.base ≡ old.base
  pub start : new.start ≡ old.start
  pub room : vec_capacity new.own ≡ vec_capacity old.own

-- A hold or a handle was taken out of the table by its name; or there is none
abbrev pub TookFrom : {T : Type 0} → (Standing → Standing) → (Standing → Option T) → Table → Table → List ℕ → Option T → Type 0
TookFrom left token old new name found =
    Took left token old.base.now old.start old.own.items new.own.items (number_at old.names.now name) found

-- the pass can give back what a name stands for, outside all arenas
pub record CanReturn (p : View) (t : Table) : Type 0 where
  pub outside : p.inside ≡ None
  pub ready : IsReady p t.base.now t.own.items

-- a table of no lines of its own yet
pub record IsFresh (numbers : Numbers) (others : List Standing) (first lines : ℕ) (t : Table) : Type 0 where
  pub names : t.names.now ≡ numbers
  pub base : t.base.now ≡ others
  pub start : t.start ≡ first
  pub own : t.own.items ≡ []
  pub room : lines ≤ vec_capacity t.own
  -- whoever knows what others' names stand for has what the table's do
  pub backs : (p : View) → All (λ s. IsBacked p (lent s)) others → Backs p p.holds p.handles others t.own.items

-- ---- a line's call

-- The pass ran a line's call that came to this: it has what it had but for a hold or handle that the line gave back, and
-- the hold or handle of the line's name
pub record CallRan (old new : View) (stands : List ℕ → Standing) (c : Command) (out : LineOutcome) : Type 0 where
  pub ran : RanLineWith old new (without (hold_back stands c) old.holds) (without (handle_back stands c) old.handles)
      (CallDoes old.caller stands c) out
  -- where it opens an arena, what it tells of slots; where it allocates, of pages
  pub slots : opens c ≡ true → SlotsTold old new out.reply
  pub pages : PagesToldBy stands old new c out.reply

-- What it leaves of the table, before the line's name is put behind the others: what was given back is there no more
pub record Leaves (p : View) (was now : Table) (c : Command) : Type 0 where
  pub keeps : KeepsTable was now
  pub many : length now.own.items ≡ length was.own.items
  pub stands : (n : ℕ) → standing_at was.base.now was.start now.own.items n
      ≡ behind (number_at was.names.now) c n (standing_at was.base.now was.start was.own.items n)
  pub backs : (holds handles : List ArenaId) → Backs p holds handles was.base.now was.own.items
      → BacksWith p (without (hold_back (stands_by was) c) p.holds) (without (handle_back (stands_by was) c) p.handles)
      holds handles was.base.now now.own.items

-- memory was wanting to the call, which was not made
pub record MadeNoCall (old new : View) (was now : Table) (c : Command) : Type 0 where
  pub pass : new ≡ old
  pub table : now ≡ was
  pub takes : takes_memory c ≡ true

-- ---- a line

pub record CanRunLine (p : View) (t : Table) (c : Command) : Type 0 where
  pub outside : p.inside ≡ None
  pub spelled : IsSpelled c
  pub room : length t.own.items < vec_capacity t.own
  pub ready : IsReady p t.base.now t.own.items

pub record AfterLine {E : Type 0} (old new : View) (was now : Table) (c : Command) (result : Result Reply E) : Type 0 where
  pub keeps : KeepsTable was now
  pub ran : IfOk result (LineRan old new was.names.now was.base.now was.start was.own.items now.own.items c)
  pub backs : (holds handles : List ArenaId) → Backs old holds handles was.base.now was.own.items
      → Backs new holds handles was.base.now now.own.items
  pub no_call : OnErr result (MadeNoCall old new was now c)

-- ---- lines in a row

-- the pass can run those of the lines that are these, with room for their names and replies
pub record CanRunLines (p : View) (t : Table) (lines : List Line) (who : Who) (replies : Vec Reply Global) : Type 0 where
  pub outside : p.inside ≡ None
  pub spelled : All (λ l. IsSpelled l.command) lines
  pub room : length t.own.items + length (lines_by (is_by who) lines) ≤ vec_capacity t.own
  pub ready : IsReady p t.base.now t.own.items
  pub no_reply : replies.items ≡ []
  pub answers : length (lines_by (is_by who) lines) ≤ vec_capacity replies

pub record AfterLines {E : Type 0} (old new : View) (was now : Table) (lines : List Line) (replies : List Reply)
    (result : Result (Unit {0}) E) : Type 0 where
  pub keeps : KeepsTable was now
  pub ran : OnOk result (LinesRan old new was.names.now was.base.now was.start was.own.items now.own.items lines replies)
  pub went : WentOn old new
  pub backs : (holds handles : List ArenaId) → Backs old holds handles was.base.now was.own.items
      → Backs new holds handles was.base.now now.own.items
  pub many : length now.own.items ≤ length was.own.items + length lines
  pub stops : OnErr result (StopsAt old new was.names.now was.base.now was.start was.own.items now.own.items lines replies)

-- ---- a table's end

pub record CanSettle (p : View) (t : Table) (others : Vec Bound Global) : Type 0 where
  pub outside : p.inside ≡ None
  pub ready : IsReady p t.base.now t.own.items
  pub no_other : others.items ≡ []
  pub room : length t.own.items ≤ vec_capacity others

-- the pass has what it had before the table's lines, and others have what their names stand for
pub record AfterSettle (old new : View) (t : Table) (bound : List Bound) : Type 0 where
  pub spent : All IsSpent t.own.items → new ≡ old
  pub left : (holds handles : List ArenaId) → Backs old holds handles t.base.now t.own.items
      → (new.holds ≡ holds) × (new.handles ≡ handles)
  pub went : WentOn old new
  pub others : map standing_as bound ≡ map lent t.own.items
