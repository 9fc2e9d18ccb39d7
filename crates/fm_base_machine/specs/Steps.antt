-- A legal call keeps the two beside each other.
use Rattle.std.specs.Prelude.{◌≡◌, ℕ, List, [], ◌∷◌, ◌++◌, None}
use Rattle.fm_base.specs.{declared.caller.Caller.{Caller}, Arenas.{State}, Calls.{Call, Entry, entry_of}, Machine.{MayCall, reply_to}}
use Rattle.fm_base.specs.Histories.{IsLegal, state_after}
use Rattle.fm_base_machine.specs.Functions.{Machine, Depicts, moved, Fresh, MayBy, reply_by}

-- no arena was opened
abbrev pub opening : Machine
opening = record { life = λ a. Fresh; word = λ a w. 0; given = λ a. 0; holds = λ a. 0; inside = λ k. None }

-- the functions after entries
abbrev pub moved_by : Machine → List Entry → Machine
moved_by t [] = t
moved_by t (e ∷ es) = moved_by (moved t e.caller e.call e.reply) es

-- legal entries take functions that depict the state to functions that depict the state after them
abbrev pub AlwaysDepicts : Type 0
AlwaysDepicts = (limit : ℕ) (h : List Entry) → IsLegal limit [] h → Depicts limit (state_after limit [] h) (moved_by opening h)

-- where the functions allow a call, it is legal in each state that they depict, and the reply is the machine's
abbrev pub AlwaysAllows : Type 0
AlwaysAllows =
    (limit : ℕ) (s : State) (t : Machine) (c : Caller) (call : Call) → Depicts limit s t → MayBy limit t c call
    → MayCall s c call × (reply_by limit t call ≡ reply_to limit s call)

-- where the functions beside a legal history allow a call, the history goes on with it, and so do the functions
abbrev pub AlwaysGoesOn : Type 0
AlwaysGoesOn =
    (limit : ℕ) (h : List Entry) (t : Machine) (c : Caller) (call : Call)
    → IsLegal limit [] h → Depicts limit (state_after limit [] h) t → MayBy limit t c call
    → let next = h ++ entry_of c call (reply_by limit t call) ∷ [] in
    IsLegal limit [] next × Depicts limit (state_after limit [] next) (moved t c call (reply_by limit t call))
