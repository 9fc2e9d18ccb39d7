-- How the workers of a crew end, and what the last of them does then.
use Rattle.std.specs.Prelude.{◌≡◌, List, [], ◌∷◌, map, Result, Ok, Err}
use Rattle.fm_base.specs.{declared.{caller.Caller.{Caller}, refusal.Refusal.{Refusal}}, Calls.{Entry}}
use Rattle.fm_group_lists.specs.Groups.{Group}
use Rattle.fm_group.specs.{Reading.{DoesReadGroups}, Table.{Counter}}
use Rattle.fm_group_crew.specs.declared.share.CountShare.{CountShare}

-- the refusal of the first that was refused, if one was
abbrev pub first_end : List (Result (Unit {0}) Refusal) → Result (Unit {0}) Refusal
first_end [] = Ok tt
first_end (Ok u ∷ rs) = first_end rs
first_end (Err r ∷ rs) = Err r

abbrev pub ends_of : List CountShare → List (Result (Unit {0}) Refusal)
ends_of ts = map (λ t. t.end) ts

-- where none was refused the table was read; else nothing was done, and the first refusal stands
abbrev pub Concludes : Counter → Result (Unit {0}) Refusal → Result (List Group) Refusal → Caller → List Entry → Type 0
Concludes w (Ok u) result c own = DoesReadGroups c w result own
Concludes w (Err r) result c own = (result ≡ Err r) × (own ≡ [])

-- so of the shares of a crew
abbrev pub concluding : Counter → List CountShare → Result (List Group) Refusal → Caller → List Entry → Type 0
concluding w shares result = Concludes w (first_end (ends_of shares)) result
