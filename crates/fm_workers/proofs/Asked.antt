-- Shares of a segment, each asked by a pass of its own.
use Rattle.std.{proofs.Common.{◌≡◌, ℕ, ◌+◌, ◌%◌, ◌≤◌, List, [], ◌∷◌, ◌++◌, refl, subst, arith, inl, inr, Result, Ok, Err}, specs.Prelude.{◌⊎◌}}
use Rattle.std.specs.List.{AllByRecursion, flat_map}
use Rattle.fm_base.specs.{declared.{caller.Caller.{Caller}, refusal.Refusal.{Refusal, TheVariants.{Ragged, WrongThread, Closed, Memory}}}, Arenas.{MayUse}}
use Rattle.fm_base.specs.{Calls.{Entry}, Histories.{made_by}, Visits.{refused_visit}}
use Rattle.fm_segment.specs.Region.{Region}
use Rattle.fm_records_query.specs.Plan.{Plan}
use Rattle.fm_records.specs.{declared.found.Found.{Found}, Query.{DoesQuery}, Reads.{AreReads, StopsReading, IsWordOf, read_visit}}
use Rattle.fm_workers.specs.{Query.{OnlyReads, reads, stops}, Tallies.{DoesCount}}

-- ---- what the passes did

-- the share lies in the segment
pub record IsWithin (part s : Region) : Type 0 where
  pub arena : part.arena ≡ s.arena
  pub from : s.first ≤ part.first
  pub below : part.first + part.size ≤ s.first + s.size

words_wider : (part s : Region) (rs : List (ℕ × ℕ)) → IsWithin part s → AllByRecursion (λ r. IsWordOf part r.0) rs → AllByRecursion (λ r. IsWordOf s r.0) rs
words_wider part s [] w h = tt
words_wider part s (r ∷ rs) w h =
    let a = h.0.above in let b = h.0.below in let f = w.from in let e = w.below in
    (record { above = omega (arith, a, f); below = omega (arith, b, e) }, words_wider part s rs w h.1)

pub reads_wider : (c : Caller) (part s : Region) (own : List Entry) → IsWithin part s → AreReads c part own → AreReads c s own
reads_wider c part s own w h = record {
  reads = h.reads;
  within = words_wider part s h.reads w h.within;
  visits = subst (λ a. own ≡ flat_map (read_visit c a) h.reads) w.arena h.visits;
}

pub stops_wider : (c : Caller) (part s : Region) (own : List Entry) → IsWithin part s → StopsReading c part own → StopsReading c s own
stops_wider c part s own w h = record {
  before = h.before;
  reads = reads_wider c part s h.before w h.reads;
  stops = subst (λ a. own ≡ h.before ++ refused_visit c a) w.arena h.stops;
}

pub no_reads : (c : Caller) (s : Region) (own : List Entry) → own ≡ [] → OnlyReads s c own
no_reads c s own e = reads (record { reads = []; within = tt; visits = e })

pub query_reads : (c : Caller) (p : Plan) (part s : Region) (r : Result (List Found) Refusal) (own : List Entry) → IsWithin part s → DoesQuery c p part r own
    → OnlyReads s c own
query_reads c p part s (Ok a) own w d = reads (reads_wider c part s own w d.reads)
query_reads c p part s (Err (Ragged n)) own w d = no_reads c s own d.2
query_reads c p part s (Err WrongThread) own w d = no_reads c s own d.2
query_reads c p part s (Err Closed) own w d = stops (stops_wider c part s own w d.2)
query_reads c p part s (Err Memory) own w d = reads (reads_wider c part s own w d.2)
query_reads c p part s (Err r) own w d = absurd d

-- what was read of a share that wasn't counted to its end
pub stops_count : (c : Caller) (p : Plan) (part s : Region) (r : Refusal) (own : List Entry)
    → IsWithin part s → DoesCount c p part (Err r) own → OnlyReads s c own
stops_count c p part s Closed own w d = stops (stops_wider c part s own w d)
stops_count c p part s Memory own w d = reads (reads_wider c part s own w d)
stops_count c p part s r own w d = absurd d

pub idle_reads : (s : Region) (more : List Entry) (cs : List Caller) → AllByRecursion (λ c. made_by c more ≡ []) cs
    → AllByRecursion (λ c. OnlyReads s c (made_by c more)) cs
idle_reads s more [] h = tt
idle_reads s more (c ∷ cs) h = (no_reads c s (made_by c more) h.0, idle_reads s more cs h.1)

-- ---- refusals

-- A share is whole, and the arena anyone's: only these are left.
pub stopped_by : (c : Caller) (p : Plan) (part : Region) (r : Refusal) (own : List Entry) → part.size % p.size ≡ 0 → MayUse part.arena c
    → DoesQuery c p part (Err r) own → (r ≡ Memory) ⊎ ((r ≡ Closed) × StopsReading c part own)
stopped_by c p part (Ragged n) own even may d = let e = d.0 in let some = d.1 in absurd (omega (arith, even, e, some))
stopped_by c p part WrongThread own even may d = absurd (d.1 may)
stopped_by c p part Closed own even may d = inr (refl, d.2)
stopped_by c p part Memory own even may d = inl refl
stopped_by c p part r own even may d = absurd d
