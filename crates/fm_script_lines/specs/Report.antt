-- What a script's lines did in one history, line by line.
use Rattle.std.specs.Prelude.{◌≡◌, ℕ, ◌+◌, ◌==◌, nat_lt, Bool, true, false, if◌then◌else◌, List, [], ◌∷◌, length, filter, Option, ⊤}
use Rattle.fm_base.specs.{declared.caller.Caller.{Caller}, Calls.{Entry}}
use Rattle.fm_base_lists.specs.Among.{AreApart}
use Rattle.fm_script_text.specs.{declared.{line.Line.{Line}, who.Who.{Who, TheVariants.{First, Worker, Last}}}, Scripts.{ScriptOf}}
use Rattle.fm_script_lines.specs.{declared.standing.Standing.TheVariants.{Nothing}, Calls.{CallDoes}, Lines.{behind}, Numbers.{number_from}, Outcomes.{outcome}}
use Rattle.fm_script_lines.specs.{Pages.{HavePages}, Slots.{HaveSlots}, Standings.{Names, stands_of, lent}}
pub use Rattle.fm_script_lines.specs.Played.{Done, Player, Played, IsCut, AreDrawn, runs, lines_of, worked, all_done, callers}

-- ---- names

abbrev pub none_stands : Names
none_stands n = Nothing

-- behind a line of this number that ran
abbrev pub names_behind : (List ℕ → Option ℕ) → ℕ → Done → Names → Names
names_behind number k d names n = if n == k then d.made else behind number d.line.command n (names n)

abbrev pub names_after : (List ℕ → Option ℕ) → ℕ → List Done → Names → Names
names_after number k [] names = names
names_after number k (d ∷ ds) names = names_after number (k + 1) ds (names_behind number k d names)

-- as another pass may use them
abbrev pub lent_names : Names → Names
lent_names names n = lent (names n)

-- ---- the lines of one caller

-- The lines, whose numbers begin at k, each did its command's call on what the names stood for
abbrev pub AreRun : Caller → (List ℕ → Option ℕ) → ℕ → Names → List Done → Type 0
AreRun c number k names [] = ⊤
AreRun c number k names (d ∷ ds) =
    CallDoes c (λ name. stands_of names (number name)) d.line.command (outcome d.reply d.made) d.run
    × AreRun c number (k + 1) (names_behind number k d names) ds

-- ---- all lines

-- the number of the line that makes a name, in the order of printing
abbrev pub number_of : Played → List ℕ → Option ℕ
number_of p = number_from 0 (lines_of (all_done p))

-- the workers' lines, whose numbers begin at k, did their calls; each worker may use the first lines' names
abbrev pub AreWorked : (List ℕ → Option ℕ) → ℕ → Names → List Player → Type 0
AreWorked number k names [] = ⊤
AreWorked number k names (w ∷ ws) = AreRun w.caller number k names w.dones × AreWorked number (k + length w.dones) names ws

-- what all names stand for once the workers are gathered: theirs behind those of the first lines
abbrev pub gathered_names : (List ℕ → Option ℕ) → ℕ → List Player → Names → Names
gathered_names number k [] names n = names n
gathered_names number k (w ∷ ws) names n =
    if nat_lt n k then names n
    else (if nat_lt n (k + length w.dones) then lent (names_after number k w.dones none_stands n)
    else gathered_names number (k + length w.dones) ws names n)

-- ---- whose lines they are

abbrev pub is_first : Who → Bool
is_first First = true
is_first _ = false

abbrev pub is_last : Who → Bool
is_last Last = true
is_last _ = false

abbrev pub is_worker : ℕ → Who → Bool
is_worker k (Worker number) = number == k
is_worker k _ = false

abbrev pub lines_by : (Who → Bool) → List Line → List Line
lines_by is ls = filter (λ l. is l.who) ls

-- the players from number k on have the lines of the workers from that number on
abbrev pub AreWorkers : List Line → ℕ → List Player → Type 0
AreWorkers ls k [] = ⊤
AreWorkers ls k (w ∷ ws) = (lines_of w.dones ≡ lines_by (is_worker k) ls) × AreWorkers ls (k + 1) ws

pub record AreLinesOf (s : ScriptOf) (p : Played) : Type 0 where
  pub firsts : lines_of p.firsts ≡ lines_by is_first s.lines
  -- one player for each pass but the first
  pub many : 1 + length p.players ≡ s.shape.passes
  pub workers : AreWorkers s.lines 1 p.players
  pub lasts : lines_of p.lasts ≡ lines_by is_last s.lines

-- What the script's lines did in the history, line by line
pub record IsReport (s : ScriptOf) (history : List Entry) (p : Played) : Type 0 where
  pub lines : AreLinesOf s p
  -- the pool's first caller ran the first lines and the last, and each worker's lines another one, of whatever number its pass drew
  pub drawn : AreDrawn s.shape.passes p
  pub apart : AreApart (callers p)
  pub cut : IsCut history p
  pub first_calls : AreRun p.main (number_of p) 0 none_stands p.firsts
  pub worker_calls : AreWorked (number_of p) (length p.firsts)
      (lent_names (names_after (number_of p) 0 p.firsts none_stands)) p.players
  pub last_calls : AreRun p.main (number_of p) (length p.firsts + length (worked p.players))
      (gathered_names (number_of p) (length p.firsts) p.players (names_after (number_of p) 0 p.firsts none_stands)) p.lasts
  -- where lines are refused for want of a slot, and where for want of pages
  pub slots : HaveSlots s.shape p cut
  pub pages : HavePages s.shape p cut
