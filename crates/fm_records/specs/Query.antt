-- What a query over a segment does.
use Rattle.std.specs.Prelude.{◌≡◌, ◌/◌, ◌%◌, ◌<◌, ◌⊎◌, List, [], Result, Ok, Err}
use Rattle.fm_base.specs.{declared.{caller.Caller.{Caller}, refusal.Refusal.{Refusal, TheVariants.{Ragged, WrongThread, Closed, Memory}}}, Arenas.{MayUse}}
use Rattle.fm_base.specs.Calls.{Entry}
use Rattle.fm_segment.specs.Region.{Region}
use Rattle.fm_records_query.specs.Plan.{Plan}
use Rattle.fm_records.specs.{declared.found.Found.{Found}, Answers.{found_over}, Adds.{AddsRecords}, Reads.{AreReads, StopsReading, record_places}}

-- the segment's records were read in order, as far as reading came, and their finds joined
abbrev pub ReadsSegment : Caller → Plan → Region → List Found → Result (Unit {0}) Refusal → List Entry → Type 0
ReadsSegment c p s = AddsRecords c s.arena p (record_places (s.size / p.size) p.size s.first) (found_over p [])

-- all were
pub record ReadsAll (c : Caller) (p : Plan) (s : Region) (a : List Found) (own : List Entry) : Type 0 where
  pub even : s.size % p.size ≡ 0
  pub may : MayUse s.arena c
  pub records : ReadsSegment c p s a (Ok tt) own
  pub reads : AreReads c s own

-- or those up to a value where reading stopped
abbrev pub StopsAll : Caller → Plan → Region → Refusal → List Entry → Type 0
StopsAll c p s r own = (all : List Found) × ReadsSegment c p s all (Err r) own

-- what a query does, the refusals in the order of the checks; memory is wanting before the first record, or at a number that can't be listed
abbrev pub DoesQuery : Caller → Plan → Region → Result (List Found) Refusal → List Entry → Type 0
DoesQuery c p s (Ok a) own = ReadsAll c p s a own
DoesQuery c p s (Err (Ragged rest)) own = (rest ≡ s.size % p.size) × (0 < rest) × (own ≡ [])
DoesQuery c p s (Err WrongThread) own = (s.size % p.size ≡ 0) × ¬ (MayUse s.arena c) × (own ≡ [])
DoesQuery c p s (Err Closed) own =
    (s.size % p.size ≡ 0) × MayUse s.arena c × StopsReading c s own × StopsAll c p s Closed own
DoesQuery c p s (Err Memory) own = (s.size % p.size ≡ 0) × MayUse s.arena c × AreReads c s own × ((own ≡ []) ⊎ StopsAll c p s Memory own)
DoesQuery c p s (Err r) own = ⊥

-- why there is no answer, the first cause that applies
abbrev pub QueryCause : Plan → Region → Caller → Refusal → Type 0
QueryCause p s c (Ragged rest) = (rest ≡ s.size % p.size) × (0 < rest)
QueryCause p s c WrongThread = (s.size % p.size ≡ 0) × ¬ (MayUse s.arena c)
QueryCause p s c Closed = (s.size % p.size ≡ 0) × MayUse s.arena c
QueryCause p s c Memory = (s.size % p.size ≡ 0) × MayUse s.arena c
QueryCause p s c e = ⊥
