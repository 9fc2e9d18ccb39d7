-- What session and mark words show of an arena.
use Rattle.std.specs.Prelude.{ℕ, ◌+◌, ◌-◌, ◌%◌, ◌^◌, ◌==◌, if◌then◌else◌, Option, Some, None}
use Rattle.fm_base.specs.{declared.arena_id.ArenaId.{ArenaId}, Arenas.{kind_number}, Calls.{Reply, Fine, Closed, Held, TooManyHolds}, Machine.{most_holds}}
use Rattle.fm_words.specs.{Marks.{mark_word}, Sessions.{alive, closing, free_session, session_word}}

-- the session word of an arena that is alive and has so many holds
unfoldable pub alive_word : ArenaId → ℕ → ℕ
alive_word a holds = session_word (record { generation = a.generation; life = alive; kind = kind_number a.kind; owner = a.owner; holds = holds })

-- the generation in the session word of a free slot whose next one is g: where none is left, the last one
unfoldable pub kept : (generations g : ℕ) → ℕ
kept generations g = if g == generations then g - 1 else g

-- the session word of a free slot whose next generation is g
unfoldable pub free_word : (generations g : ℕ) → ℕ
free_word generations g = session_word (free_session (kept generations g))

-- the session word of an arena that was shut
unfoldable pub closing_word : ArenaId → ℕ
closing_word a = session_word (record { generation = a.generation; life = closing; kind = kind_number a.kind; owner = a.owner; holds = 0 })

-- the number of holds, where the session word shows the arena alive
unfoldable pub alive_holds : ArenaId → ℕ → Option ℕ
alive_holds a word = if word == alive_word a (word % 2 ^ 16) then Some (word % 2 ^ 16) else None

-- the mark of an arena
unfoldable pub mark_of : ArenaId → ℕ
mark_of a = mark_word a.slot a.generation

-- the word of a mark that names an arena or none
abbrev pub own_word : Option ArenaId → ℕ
own_word None = 0
own_word (Some a) = mark_of a

-- what Enter answers by what was found
abbrev pub enter_found : Option ℕ → Reply
enter_found None = Closed
enter_found (Some holds) = Fine

abbrev pub inside_found : ArenaId → Option ℕ → Option ArenaId
inside_found a None = None
inside_found a (Some holds) = Some a

abbrev pub shut_by : ℕ → Reply
shut_by holds = if holds == 0 then Fine else Held holds

abbrev pub shut_found : Option ℕ → Reply
shut_found None = Closed
shut_found (Some holds) = shut_by holds

abbrev pub hold_by : ℕ → Reply
hold_by holds = if holds == most_holds then TooManyHolds else Fine

-- what Hold answers by what was found
abbrev pub hold_found : Option ℕ → Reply
hold_found None = Closed
hold_found (Some holds) = hold_by holds

abbrev pub held_by : ℕ → Reply → ℕ
held_by word Fine = word + 1
held_by word reply = word

-- the session word that Hold leaves
unfoldable pub held_word : ArenaId → ℕ → ℕ
held_word a word = held_by word (hold_found (alive_holds a word))
