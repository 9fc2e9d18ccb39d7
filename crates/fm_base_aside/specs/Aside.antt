-- What one caller sees of a machine in which the others only look.
use Rattle.std.specs.{Prelude.{◌≡◌, ◌⊎◌, true, false, List, map, filter, ⊤}, List.{AllByRecursion}}
use Rattle.fm_base.specs.{declared.caller.Caller.{Caller}, Arenas.{Arena, State, are_one}, Calls.{Call, Enter, Read, Leave, Lend, Back, Entry}}

-- a call that changes no arena but for who is under way in it
abbrev pub IsLook : Call → Type 0
IsLook (Enter id) = ⊤
IsLook (Read id word) = ⊤
IsLook (Leave id) = ⊤
IsLook (Lend block id part) = ⊤
IsLook (Back block) = ⊤
IsLook call = ⊥

-- the entry is the caller's, or another's look
abbrev pub IsOwnOrLook : Caller → Entry → Type 0
IsOwnOrLook c e = (are_one e.caller c ≡ true) ⊎ ((are_one e.caller c ≡ false) × IsLook e.call)

abbrev pub OthersLook : Caller → List Entry → Type 0
OthersLook c es = AllByRecursion (IsOwnOrLook c) es

-- the arena as if nobody but the caller were under way in it
abbrev pub arena_for : Caller → Arena → Arena
arena_for c a = record a { under_way = filter (λ x. are_one x c) a.under_way }

abbrev pub state_for : Caller → State → State
state_for c s = map (arena_for c) s
