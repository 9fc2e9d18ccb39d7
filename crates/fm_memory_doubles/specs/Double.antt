-- What contracts see of a `Double`: the arenas of a `Mono`, which other callers use too, with the whole history.
use Rattle.std.specs.Prelude.{◌≡◌, ◌≤◌, ◌^◌, Bool, true, false, List, [], ◌∷◌, Option, Some, None, All, ⊤}
use Rattle.fm_base.specs.{declared.{arena_id.ArenaId.{ArenaId}, caller.Caller.{Caller}}, Arenas.{only_caller, State, Alive, has_arena, arena_of}, Finds.{Rest}}
use Rattle.fm_base.specs.{Histories.{IsLegal, state_after, made_by}, View.{View, Told}, Outcomes.{Nature}}
use Rattle.fm_mono.specs.Shown.{Arenas}
use Rattle.fm_memory_doubles.specs.{declared.{heard.Heard.{Heard}, others.Others.{Others, TheVariants.{Gathered}}}, Heard.{entries_in, finds_in}}

-- the caller that comes between the calls of caller 0
abbrev pub another : Caller
another = record { number = 1; term = 0 }

-- a caller that was gathered into caller 0
abbrev pub gathered_one : Caller
gathered_one = record { number = 2; term = 0 }

pub record Doubled : Type 0 where
  pub mono : Arenas
  pub others : Others
  pub heard : List Heard

abbrev pub doubled : Arenas → Others → List Heard → Doubled
doubled mono others heard = record { mono = mono; others = others; heard = heard }

-- whether every other caller was gathered into this one
abbrev pub are_gathered : Others → Bool
are_gathered Gathered = true
are_gathered others = false

abbrev pub rest_of : Others → Rest
rest_of others = record {
  home = [];
  holds = [];
  handles = [];
  closes = [];
  sweeps = [];
  pages = [];
  slots = [];
  gathered = record { caller = gathered_one; finds = [] } ∷ [];
  whole = are_gathered others;
}

abbrev pub told_of : Doubled → Told
told_of d = record {
  seen = entries_in d.heard;
  mine = made_by only_caller (entries_in d.heard);
  finds = finds_in 0 d.heard;
  rest = rest_of d.others;
}

-- caller 0, not alone, and telling the whole history
abbrev pub double_view : Doubled → View
double_view d = record {
  limit = d.mono.limit;
  state = d.mono.state;
  caller = only_caller;
  inside = d.mono.inside;
  alone = false;
  told = Some (told_of d);
}

abbrev pub nature_of_double : Nature
nature_of_double = record { alone = false; memory = true; no_slot = true; pool_full = false }

-- between the calls, nobody but caller 0 is under way anywhere
abbrev pub IsOnlyZero : State → Type 0
IsOnlyZero s = (id : ArenaId) → All (λ c. c ≡ only_caller) (arena_of s id).under_way

-- the arena that was entered is there, and is alive
abbrev pub IsInAlive : State → Option ArenaId → Type 0
IsInAlive s None = ⊤
IsInAlive s (Some id) = (has_arena s id ≡ true) × ((arena_of s id).life ≡ Alive)

pub record IsDouble (d : Doubled) (entered : Option ArenaId) : Type 0 where
  pub small : d.mono.limit ≤ 2 ^ 40
  pub legal : IsLegal d.mono.limit [] (entries_in d.heard)
  pub state : d.mono.state ≡ state_after d.mono.limit [] (entries_in d.heard)
  pub inside : d.mono.inside ≡ entered
  pub only_zero : IsOnlyZero d.mono.state
  pub alive : IsInAlive d.mono.state d.mono.inside
