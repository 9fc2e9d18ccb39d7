-- The entries and finds that what is heard stands for.
use Rattle.std.specs.Prelude.{ℕ, ◌+◌, List, [], ◌∷◌, ◌++◌, length, Option, Some, None, true, Result, Ok, Err}
use Rattle.fm_base.specs.{Arenas.{only_caller}, declared.{caller.Caller.{Caller}, arena_id.ArenaId.{ArenaId}, refusal.Refusal.{Refusal}}}
use Rattle.fm_base.specs.{Calls.{Entry, entry_of}, Finds.{Find, TakesSlot}, Visits.{visit, refused_visit}}
use Rattle.fm_base.specs.declared.refusal.Refusal.TheVariants as refusal
use Rattle.fm_base.specs.Calls as machine
use Rattle.fm_memory_doubles.specs.declared.heard.Heard.{Heard, TheVariants.{Enter, Load, Store, SwapIf, Add, Leave, Open, Allocate, Close, Visit}}

abbrev pub own_enter : ArenaId → Result (Unit {0}) Refusal → List Entry
own_enter id (Ok u) = entry_of only_caller (machine.Enter id) machine.Fine ∷ []
own_enter id (Err refusal.Closed) = refused_visit only_caller id
own_enter id (Err r) = []

abbrev pub own_open : Result ArenaId Refusal → List Entry
own_open (Ok id) = entry_of only_caller (machine.Open id) machine.Fine ∷ []
own_open (Err r) = []

abbrev pub own_allocate : ArenaId → ℕ → ℕ → Result ℕ Refusal → List Entry
own_allocate id size align (Ok place) = visit only_caller id ((machine.Allocate id size align, machine.Given place) ∷ [])
own_allocate id size align (Err refusal.Closed) = refused_visit only_caller id
own_allocate id size align (Err (refusal.NoRoom given)) = visit only_caller id ((machine.Allocate id size align, machine.NoRoom given) ∷ [])
own_allocate id size align (Err refusal.PoolFull) = visit only_caller id []
own_allocate id size align (Err r) = []

abbrev pub close_by : Caller → ArenaId → Result (Unit {0}) Refusal → List Entry
close_by c id (Ok u) = entry_of c (machine.Shut id) machine.Fine ∷ entry_of c (machine.End id) machine.Fine ∷ []
close_by c id (Err refusal.Closed) = entry_of c (machine.Shut id) machine.Closed ∷ []
close_by c id (Err (refusal.Held holds)) = entry_of c (machine.Shut id) (machine.Held holds) ∷ []
close_by c id (Err r) = []

abbrev pub entries_by : Heard → List Entry
entries_by (Enter id result) = own_enter id result
entries_by (Load id word found) = entry_of only_caller (machine.Read id word) (machine.Found found) ∷ []
entries_by (Store id word v) = entry_of only_caller (machine.Write id word v) machine.Fine ∷ []
entries_by (SwapIf id word old new found) = entry_of only_caller (machine.SwapIf id word old new) (machine.Found found) ∷ []
entries_by (Add id word n found) = entry_of only_caller (machine.Add id word n) (machine.Found found) ∷ []
entries_by (Leave id) = entry_of only_caller (machine.Leave id) machine.Fine ∷ []
entries_by (Open result) = own_open result
entries_by (Allocate id size align result) = own_allocate id size align result
entries_by (Close c id result) = close_by c id result
entries_by (Visit c id word n found) = visit c id ((machine.Add id word n, machine.Found found) ∷ [])

abbrev pub entries_in : List Heard → List Entry
entries_in [] = []
entries_in (h ∷ hs) = entries_by h ++ entries_in hs

-- where an `open_arena` found no slot, a step found no bit to take, after so many entries
abbrev pub finds_by : ℕ → Heard → List Find
finds_by seen (Open (Err refusal.NoSlot)) = record { step = TakesSlot 0 0; found = 0; seen = seen; clear = true; gathered = 1; drew = None } ∷ []
finds_by seen h = []

abbrev pub finds_in : ℕ → List Heard → List Find
finds_in seen [] = []
finds_in seen (h ∷ hs) = finds_by seen h ++ finds_in (seen + length (entries_by h)) hs

-- the arena that the caller is inside after an `enter`
abbrev pub inside_by : ArenaId → Result (Unit {0}) Refusal → Option ArenaId
inside_by id (Ok u) = Some id
inside_by id (Err r) = None
