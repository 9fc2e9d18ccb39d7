-- The arenas that are alive at the end of a script's run, and the bytes that they have given.
use Rattle.std.specs.{Prelude.{◌≡◌, ℕ, true, List, [], ◌∷◌, Option, Some, None, IfSome, get_or}, List.{AllByRecursion, flat_map}}
use Rattle.fm_base.specs.{declared.arena_id.ArenaId.{ArenaId}, Arenas.{Life, Alive, Closing, Ended, arena_of, has_arena}}
use Rattle.fm_rule.specs.{Finishing.{FinishedView}, GivenBytes.{state_of, given_bytes}}
use Rattle.fm_script_text.specs.declared.{command.Command.{Command, TheVariants.{Open}}, line.Line.{Line}}
use Rattle.fm_script_report.specs.declared.arena.AliveArena.{AliveArena}

-- what the line of this number opened, where these are what each line opened
abbrev pub opened_at : List (Option ArenaId) → Option ℕ → Option ArenaId
opened_at opened None = None
opened_at opened (Some n) = get_or opened n None

-- what the line that makes this name opened, where that line has the name's number
abbrev pub arena_by : (List ℕ → Option ℕ) → List (Option ArenaId) → List ℕ → Option ArenaId
arena_by number opened name = opened_at opened (number name)

-- each of the arenas was opened in the history
abbrev pub AreOpened : FinishedView → List (Option ArenaId) → Type 0
AreOpened f opened = AllByRecursion (λ o. IfSome o (λ id. has_arena (state_of f) id ≡ true)) opened

-- the arena of this name, while its life is such
abbrev pub while_alive : Life → List ℕ → List ℕ → List AliveArena
while_alive Alive name bytes = record { name = name; bytes = bytes } ∷ []
while_alive Closing name bytes = []
while_alive Ended name bytes = []

abbrev pub alive_at : FinishedView → List ℕ → Option ArenaId → List AliveArena
alive_at f name None = []
alive_at f name (Some id) = while_alive (arena_of (state_of f) id).life name (given_bytes f id)

-- the arena that a line opens, if it is alive at the end
abbrev pub alive_by : FinishedView → (List ℕ → Option ArenaId) → Command → List AliveArena
alive_by f arena (Open name kind) = alive_at f name (arena name)
alive_by f arena _ = []

-- those of all lines, in their order
abbrev pub alive_of : FinishedView → (List ℕ → Option ArenaId) → List Line → List AliveArena
alive_of f arena lines = flat_map (λ l. alive_by f arena l.command) lines
