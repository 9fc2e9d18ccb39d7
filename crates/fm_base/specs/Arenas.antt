-- The arenas of the one-thread machine, and how one is looked up (`Arena`, Java SE 22).
use Rattle.std.specs.Prelude.{◌≡◌, ℕ, ◌==◌, ◌&&◌, Bool, true, false, if◌then◌else◌, List, [], ◌∷◌, Contains, slice_index}
use Rattle.fm_base.specs.declared.{caller.Caller.{Caller}, arena_id.ArenaId.{ArenaId}, kind.Kind.{Kind, TheVariants.{Global, Automatic, Confined, Shared}}}

pub data Life : Type 0 where
  Alive : Life
  Closing : Life
  Ended : Life

pub record Arena : Type 0 where
  pub id : ArenaId
  pub life : Life
  -- word w holds the places 8w to 8w + 7, the lowest byte first
  pub words : List ℕ
  -- how many bytes were given
  pub given : ℕ
  pub holds : ℕ
  -- the callers under way in it
  pub under_way : List Caller

-- the arenas in order of opening
abbrev pub State : Type 0
State = List Arena

-- the number by which a kind is printed
abbrev pub kind_number : Kind → ℕ
kind_number Global = 0
kind_number Automatic = 1
kind_number Confined = 2
kind_number Shared = 3

-- whether two callers are one
abbrev pub are_one : Caller → Caller → Bool
are_one a b = a.number == b.number && a.term == b.term

-- the caller of a memory that has no other
abbrev pub only_caller : Caller
only_caller = record { number = 0; term = 0 }

-- the caller that opened the arena
abbrev pub owner_of : ArenaId → Caller
owner_of id = record { number = id.owner; term = id.term }

-- whether two names are one
unfoldable pub same_id : ArenaId → ArenaId → Bool
same_id a b =
    a.slot == b.slot && a.generation == b.generation && a.owner == b.owner && a.term == b.term && kind_number a.kind == kind_number b.kind

abbrev pub has_arena : State → ArenaId → Bool
has_arena [] id = false
has_arena (a ∷ s) id = if same_id a.id id then true else has_arena s id

-- what is looked up where no arena has the name: it takes no call
abbrev pub no_arena : ArenaId → Arena
no_arena id = record { id = id; life = Ended; words = []; given = 0; holds = 0; under_way = [] }

abbrev pub arena_of : State → ArenaId → Arena
arena_of [] id = no_arena id
arena_of (a ∷ s) id = if same_id a.id id then a else arena_of s id

-- the state with the arena changed
abbrev pub changed : State → ArenaId → (Arena → Arena) → State
changed [] id change = []
changed (a ∷ s) id change = if same_id a.id id then change a ∷ s else a ∷ changed s id change

abbrev pub word_in : State → ArenaId → ℕ → ℕ
word_in s id word = slice_index (arena_of s id).words word

abbrev pub IsUnderWay : State → Caller → ArenaId → Type 0
IsUnderWay s caller id = Contains (arena_of s id).under_way caller

-- a confined arena is used by its owner alone
abbrev pub MayUse : ArenaId → Caller → Type 0
MayUse id caller = id.kind ≡ Confined → owner_of id ≡ caller
