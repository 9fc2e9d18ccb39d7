-- The answers of all shares joined.
use Rattle.std.specs.Prelude.{◌≡◌, List, [], ◌∷◌, Some, None, Result, Ok, Err, IfOk, ⊤}
use Rattle.fm_base.specs.declared.refusal.Refusal.{Refusal}
use Rattle.fm_records_query.specs.Plan.{Plan}
use Rattle.fm_records.specs.{declared.found.Found.{Found}, Answers.{answer}, Joined.{CanJoin, joined}}
use Rattle.fm_workers_shares.specs.Placing.{Slot}

-- an answer joined with what those behind it come to
abbrev pub joined_slot : Slot → List Found → List Found
joined_slot (Some x) rest = joined x rest
joined_slot None rest = rest

abbrev pub joined_all : Plan → List Slot → List Found
joined_all p [] = answer p []
joined_all p (slot ∷ slots) = joined_slot slot (joined_all p slots)

-- the share was answered, and the answer can be joined with this
abbrev pub CanJoinOne : Slot → List Found → Type 0
CanJoinOne (Some x) rest = CanJoin x rest
CanJoinOne None rest = ⊥

abbrev pub CanJoinAll : Plan → List Slot → Type 0
CanJoinAll p [] = ⊤
CanJoinAll p (slot ∷ slots) = CanJoinOne slot (joined_all p slots) × CanJoinAll p slots

-- and with what those behind it come to, if memory was there for that
abbrev pub IsAnswered : Slot → Type 0
IsAnswered (Some x) = ⊤
IsAnswered None = ⊥

pub record CanJoinSlot (slot : Slot) (behind : Result (List Found) Refusal) : Type 0 where
  pub answered : IsAnswered slot
  pub can : IfOk behind (CanJoinOne slot)

-- both were joined, or memory was wanting
abbrev pub JoinsSlot : Slot → Result (List Found) Refusal → Result (List Found) Refusal → Type 0
JoinsSlot slot behind (Ok a) = (rest : List Found) × (behind ≡ Ok rest) × (a ≡ joined_slot slot rest)
JoinsSlot slot behind (Err r) = ⊤
