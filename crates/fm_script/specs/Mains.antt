-- What the passes of a script's run ask for, and what is learnt of them.
use Rattle.std.specs.Prelude.{◌≡◌, ℕ, ◌+◌, ◌++◌, ◌≤◌, List, [], length, vec_capacity, Result, All, OnOk}
use Rattle.fm_arena.specs.Shares.{CanShare}
use Rattle.fm_base.specs.declared.arena_id.ArenaId.{ArenaId}
use Rattle.fm_rule.specs.declared.pool.Pool.{Pool}
use Rattle.fm_rule_facts.specs.Views.{View}
use Rattle.fm_script_text.specs.declared.line.Line.{Line}
use Rattle.fm_script_lines.specs.{declared.{numbers.Numbers.{Numbers}, table.Table.{Table}}, Learnt.{IsFresh, KeepsTable}, Ordering.{in_order}}
use Rattle.fm_script_lines.specs.{Report.{is_first, is_last, lines_by}, Standings.{IsBacked}, Tokens.{Backs}}
use Rattle.fm_workers_crew.specs.Crew.{IsWhole}
use Rattle.fm_script.specs.{declared.{main_lines.MainLines.{MainLines}, player.Player.{Player}}, Players.{CanPlay, Playing}, Runs.{AllRan, CanRun, names_lent}}

-- nothing was replied yet, and there is room for the first lines' replies, the last ones', and so many names
pub record HasRoom (lines : List Line) (names : ℕ) (m : MainLines) : Type 0 where
  pub no_first : m.firsts.items ≡ []
  pub no_last : m.lasts.items ≡ []
  pub no_name : m.lent.items ≡ []
  pub firsts : length (lines_by is_first lines) ≤ vec_capacity m.firsts
  pub lasts : length (lines_by is_last lines) ≤ vec_capacity m.lasts
  pub lent : names ≤ vec_capacity m.lent

-- a pass outside can draw a pass for each of the workers, which can play
pub record CanWork (pool : Pool) (w : Playing) (p : View) (players : List Player) : Type 0 where
  pub outside : CanShare pool p
  pub can : All (CanPlay w p) players
  pub whole : IsWhole p
  pub enough : length p.gathered + (1 + length players) ≤ p.shape.passes

-- all lines can be run, over a table of none yet
pub record CanRunAll (pool : Pool) (p : View) (names : Numbers) (lines : List Line) (t : Table) (players : List Player) (m : MainLines)
    : Type 0 where
  pub outside : CanShare pool p
  pub can : CanRun names lines p players
  pub fresh : IsFresh names [] 0 (length (in_order (length players) lines)) t
  pub room : HasRoom lines (length (in_order (length players) lines)) m

-- the workers' names stand behind those of the table
pub record TakesOver (old new : Table) (players : List Player) : Type 0 where
  pub keeps : KeepsTable old new
  pub own : new.own.items ≡ old.own.items ++ names_lent players
  pub backs : (p : View) (holds handles : List ArenaId) → Backs p holds handles old.base.now old.own.items
      → All (IsBacked p) (names_lent players) → Backs p holds handles old.base.now new.own.items

pub record AfterAll {E : Type 0} (pool : Pool) (old new : View) (names : Numbers) (lines : List Line) (was now : Table)
    (tasks players : List Player) (before after : MainLines) (result : Result (Unit {0}) E) : Type 0 where
  pub ran : OnOk result (AllRan names lines old new tasks players now.own.items after.firsts.items after.lasts.items)
  pub keeps : KeepsTable was now
  pub room : length now.own.items ≤ length (in_order (length tasks) lines)
  pub backs : (holds handles : List ArenaId) → Backs old holds handles [] [] → Backs new holds handles [] now.own.items
  -- what names stand for in the end is not told yet
  pub lent : after.lent ≡ before.lent
  pub outside : CanShare pool new
