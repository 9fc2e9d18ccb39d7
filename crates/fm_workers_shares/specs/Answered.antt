-- Shares that a crew answered.
use Rattle.std.specs.{Prelude.{◌≡◌, ℕ, ◌+◌, ◌/◌, List, [], ◌∷◌, ◌++◌}, List.{AllByRecursion, AllZip, range_with_len}}
use Rattle.fm_base.specs.{declared.caller.Caller.{Caller}, Calls.{Entry}, Histories.{made_by}}
use Rattle.fm_workers_jobs.specs.Turns.{times}
use Rattle.fm_base_lists.specs.Among.{IsAmong}
use Rattle.fm_segment.specs.Region.{Region}
use Rattle.fm_records_query.specs.Plan.{Plan}
use Rattle.fm_records.specs.{declared.found.Found.{Found}, Shares.{AreCut, AreDone, Share, all_joined}}
use Rattle.fm_workers_shares.specs.{declared.answers.Done.{Done}, Shares.{many_of, share_of}, Taking.{DoesEach, jobs_of}}

-- they are the shares from this number on, up to the last
abbrev pub AreNumbered : Plan → Region → (each number : ℕ) → List Share → Type 0
AreNumbered p s each number [] = number ≡ many_of (s.size / p.size) each
AreNumbered p s each number (w ∷ ws) = (w.region ≡ share_of p s each number) × AreNumbered p s each (number + 1) ws

abbrev pub all_of : List (List Done) → List Done
all_of [] = []
all_of (ds ∷ dss) = ds ++ all_of dss

-- the shares of so many records from this number on, which are all of the part; each was answered by a caller of the crew
pub record AnsweredShares (p : Plan) (s : Region) (each : ℕ) (crew : List Caller) (more : List Entry) (part : Region) (number : ℕ) : Type 0 where
  pub shares : List Share
  pub cut : AreCut p part shares
  pub numbered : AreNumbered p s each number shares
  pub callers : AllByRecursion (λ w. IsAmong w.caller crew) shares
  pub done : AreDone p more shares

-- the segment was cut into such shares, and their answers joined
pub record AnsweredBy (p : Plan) (s : Region) (each : ℕ) (crew : List Caller) (more : List Entry) (a : List Found) : Type 0 where
  pub all : AnsweredShares p s each crew more s 0
  pub joined : a ≡ all_joined p all.shares
  -- by nothing else: each caller's entries are the queries over the shares that it took, and no share was taken twice
  pub taken : List (List Done)
  pub by_each : AllZip (λ c ds. DoesEach p s each c ds (made_by c more)) crew taken
  pub once : (number : ℕ) → times number (jobs_of (all_of taken)) ≡ times number (range_with_len 0 (many_of (s.size / p.size) each))
