-- What a caller reads of shares.
use Rattle.std.proofs.Common.{ℕ, ◌+◌, ◌/◌, List, [], ◌∷◌, ◌++◌, refl, sym, subst, arith}
use Rattle.fm_base.specs.{declared.caller.Caller.{Caller}, Calls.{Entry}}
use Rattle.fm_segment.specs.Region.{Region}
use Rattle.fm_records_query.specs.Plan.{Plan}
use Rattle.fm_records.{specs.Reads.{AreReads}, proofs.Visiting.{AreReads-append, AreReads-none, StopsReading-after}}
use Rattle.fm_workers_shares.specs.{declared.answers.Done.{Done}, Shares.{share_of, start_of}, Taking.{DoesEach}}
use Rattle.fm_workers_shares.proofs.Numbers.{run_fits, start_order, start_within}
use Rattle.fm_workers.{specs.Query.{OnlyReads, reads, stops}, proofs.Asked.{IsWithin, reads_wider}}

-- Each share lies in the segment.
pub share_lies : (p : Plan) (s : Region) (each k : ℕ) → IsWithin (share_of p s each k) s
share_lies p s each k =
    let fits = run_fits (start_of (s.size / p.size) each k) (start_of (s.size / p.size) each (k + 1)) p.size s.size (start_order (s.size / p.size) each k)
    (start_within (s.size / p.size) each (k + 1)) in
    record { arena = refl; from = omega arith; below = omega (arith, fits) }

-- Shares that were answered were read.
pub each_read : (p : Plan) (s : Region) (each : ℕ) (c : Caller) (ds : List Done) (own : List Entry) → DoesEach p s each c ds own → AreReads c s own
each_read p s each c [] own h = subst (AreReads c s) (sym h) (AreReads-none c s)
each_read p s each c (d ∷ ds) own h =
    let first = reads_wider c (share_of p s each d.job) s h.0 (share_lies p s each d.job) h.3.reads in
    subst (AreReads c s) (sym h.2) (AreReads-append c s h.0 h.1 first (each_read p s each c ds h.1 h.4))

-- Reads behind others.
pub reads_after : (c : Caller) (s : Region) (es fs : List Entry) → AreReads c s es → OnlyReads s c fs → OnlyReads s c (es ++ fs)
reads_after c s es fs h (reads k) = reads (AreReads-append c s es fs h k)
reads_after c s es fs h (stops k) = stops (StopsReading-after c s es fs h k)
