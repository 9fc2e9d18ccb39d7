-- How many lines opened an arena where a worker's line finds no slot.
use Rattle.std.specs.Prelude.{ℕ, ◌≤◌, Bool, true, false, ◌&&◌, List, [], ◌∷◌, ◌++◌, filter, length, ⊤}
use Rattle.fm_base.specs.Calls.{Entry}
use Rattle.fm_script_lines.specs.{declared.reply.Reply.{Reply, TheVariants.{Fine}}, Played.{Done, Played, Player, worked}, Report.{IsReport}}
use Rattle.fm_script_lines.specs.Slots.{FindsNoSlot, opens}
use Rattle.fm_script_text.specs.Scripts.{ScriptOf}

abbrev pub is_fine : Reply → Bool
is_fine Fine = true
is_fine reply = false

-- an `open` line that was answered ok
abbrev pub is_opening : Done → Bool
is_opening d = opens d.line.command && is_fine d.reply

abbrev pub how_many_open : List Done → ℕ
how_many_open ds = length (filter is_opening ds)

-- one worker's lines: where one finds no slot, so many of these others and of the lines before it opened an arena
abbrev pub FindMany : ℕ → (others earlier : List Done) → List Done → Type 0
FindMany slots others earlier [] = ⊤
FindMany slots others earlier (d ∷ ds) =
    (FindsNoSlot d → slots ≤ how_many_open (others ++ earlier)) × FindMany slots others (earlier ++ d ∷ []) ds

-- the workers' lines; `before` are the first lines and those of the workers before these
abbrev pub WorkersFindMany : ℕ → List Done → List Player → Type 0
WorkersFindMany slots before [] = ⊤
WorkersFindMany slots before (w ∷ ws) =
    FindMany slots (before ++ worked ws) [] w.dones × WorkersFindMany slots (before ++ w.dones) ws

-- A worker's line finds no slot only where as many other `open` lines as the pool has slots were answered ok, its own
-- later ones and the last lines not counted
abbrev pub ReportsFindMany : Type 0
ReportsFindMany =
    (s : ScriptOf) (history : List Entry) (p : Played) → IsReport s history p
    → WorkersFindMany s.shape.slots p.firsts p.players
