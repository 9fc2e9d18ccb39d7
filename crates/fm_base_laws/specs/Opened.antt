-- The order in which arenas were opened.
use Rattle.std.specs.{Prelude.{◌≡◌, ℕ, List, [], ◌∷◌, map}, List.{flat_map}}
use Rattle.fm_base.specs.{declared.arena_id.ArenaId.{ArenaId}, Calls.{Call, Open, Entry}, Histories.{state_after}}

-- the arena that the call opens
abbrev pub opened_by : Call → List ArenaId
opened_by (Open a) = a ∷ []
opened_by call = []

-- the arenas of a state are those that were opened, in that order
abbrev pub OpenedInOrder : Type 0
OpenedInOrder =
    (limit : ℕ) (h : List Entry) → map (λ a. a.id) (state_after limit [] h) ≡ flat_map (λ e. opened_by e.call) h
