-- What all lines of a script did, pass by pass, and which scripts are run.
use Rattle.std.specs.{Prelude.{◌≡◌, ◌⊎◌, ℕ, ◌+◌, ◌≤◌, List, [], ◌++◌, length, map, None, Ok}, List.{AllByRecursion, flat_map}}
use Rattle.fm_base.specs.{declared.caller.Caller.{Caller}, Arenas.{only_caller}}
use Rattle.fm_rule_facts.specs.Views.{View}
use Rattle.fm_arena.specs.Opening.{HasNoSlot}
use Rattle.fm_rule.specs.Finishing.{FinishedView, IsFinished}
use Rattle.fm_words.specs.Shapes.{IsValid}
use Rattle.fm_script_text.specs.{declared.line.Line.{Line}, Rules.{passes_of}, Scripts.{ScriptOf}}
use Rattle.fm_workers_crew.specs.Crew.{CrewWorked, IsWhole}
use Rattle.fm_script_lines.specs.{declared.{numbers.Numbers.{Numbers}, reply.Reply.{Reply}, standing.Standing.{Standing}}, Admitted.{KeepRules}}
use Rattle.fm_script_lines.specs.{Numbers.{AreNumbers}, Ordering.{AreStarts, in_order}, Playing.{LinesRan}, Report.{is_first, is_last, lines_by}}
use Rattle.fm_script_lines.specs.Standings.{lent, standing_as}
use Rattle.fm_script.specs.{declared.{main_lines.MainLines.{MainLines}, player.Player.{Player}}, Players.{ArePlayers, Playing, Plays, playing}}

-- a script as its text spells it: its lines keep the rules, and its pool has a pass for each worker
pub record IsWritten (s : ScriptOf) : Type 0 where
  pub valid : IsValid s.shape
  pub passes : s.shape.passes ≡ passes_of s.lines
  pub rules : KeepRules s.lines

-- ---- while it runs

-- the one pass of a pool that nobody used yet
pub record IsOnly (p : View) : Type 0 where
  pub whole : IsWhole p
  pub unused : p.seen ≡ []
  pub first : p.caller ≡ only_caller
  pub no_slot : HasNoSlot p
  pub no_close : p.closes ≡ []
  pub alone : p.gathered ≡ []

-- a pass and workers that have played nothing can run the lines, whose numbers are those of the names
pub record CanRun (names : Numbers) (lines : List Line) (p : View) (players : List Player) : Type 0 where
  pub only : IsOnly p
  pub rules : KeepRules lines
  pub numbers : AreNumbers (in_order (length players) lines) names
  pub starts : List ℕ
  pub are_starts : AreStarts lines (length players) starts
  pub are_players : ArePlayers lines starts players
  -- there is a pass for each
  pub enough : 1 + length players ≤ p.shape.passes

-- what the workers' names stand for, once these have played
abbrev pub names_lent : List Player → List Standing
names_lent ps = flat_map (λ p. map standing_as p.lent.items) ps

-- no worker's lines were cut off
abbrev pub AllPlayed : List Player → Type 0
AllPlayed ps = AllByRecursion (λ p. p.cut ≡ None) ps

-- no worker began, or the lines of one were cut off
abbrev pub IsCutOff : (tasks players : List Player) → Type 0
IsCutOff tasks players = (players ≡ tasks) ⊎ ¬ (AllPlayed players)

-- the workers have played, each as a pass of its own
pub record Worked (w : Playing) (old new : View) (tasks players : List Player) : Type 0 where
  pub crew : CrewWorked (Plays w) old new tasks players (Ok tt)
  pub played : AllPlayed players

-- The first lines ran, then the workers, then the last lines, over all names
pub record AllRan (names : Numbers) (lines : List Line) (old new : View) (tasks players : List Player) (own : List Standing)
    (firsts lasts : List Reply) : Type 0 where
  pub before : View
  pub between : View
  pub whole : IsWhole before
  pub first_names : List Standing
  pub first : LinesRan old before names [] 0 [] first_names (lines_by is_first lines) firsts
  pub worked : Worked (playing names lines first_names) before between tasks players
  pub last : LinesRan between new names [] 0 (first_names ++ names_lent players) own (lines_by is_last lines) lasts

-- and nothing was left to give back
pub record Ran (numbers : Numbers) (lines : List Line) (old new : View) (tasks players : List Player) (main : MainLines) : Type 0 where
  pub own : List Standing
  pub all : AllRan numbers lines old new tasks players own main.firsts.items main.lasts.items
  pub lent_names : map standing_as main.lent.items ≡ map lent own

-- ---- once it has run

-- All lines of the script ran over a pool, which is finished. The pass of this caller ran the first and the last ones
pub record HasRun (s : ScriptOf) (order : List Line) (names : Numbers) (caller : Caller) (players : List Player) (main : MainLines)
    (f : FinishedView) : Type 0 where
  pub old : View
  pub new : View
  pub tasks : List Player
  pub can : CanRun names s.lines old tasks
  pub ran : Ran names s.lines old new tasks players main
  pub in_printing : order ≡ in_order (length tasks) s.lines
  pub passes : 1 + length tasks ≡ s.shape.passes
  pub by : caller ≡ old.caller
  pub of_shape : old.shape ≡ s.shape
  pub shape : f.shape ≡ s.shape
  pub history : f.history ≡ new.seen
  pub finished : IsFinished f
