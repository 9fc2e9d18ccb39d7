-- Ends of takers, and their answers at the shares' places.
use Rattle.std.proofs.Common.{◌≡◌, ℕ, List, [], ◌∷◌, length, refl, arith, inl, inr, Result, Ok, Err}
use Rattle.std.{specs.{Prelude.{◌⊎◌}, List.{AllByRecursion, range_with_len}}}
use Rattle.fm_base.specs.{declared.{caller.Caller.{Caller}, refusal.Refusal.{Refusal}}, Calls.{Entry}}
use Rattle.fm_workers_jobs.specs.Turns.{times}
use Rattle.fm_segment.specs.Region.{Region}
use Rattle.fm_records_query.specs.Plan.{Plan}
use Rattle.fm_workers_shares.specs.{declared.answers.Done.{Done}, Batches.{nones}, Joining.{CanJoinAll}, Placing.{or_later, placed}}
use Rattle.fm_workers_shares.specs.{Shares.{Cut, IsCut, shares_in}, Taking.{DoesEach, jobs_of}}
use Rattle.fm_workers_shares.proofs.{Joins.{IsFoundAt, all_join}, Once.{once_among}, Places.{all_placed}}

pub both_ended : (r later : Result (Unit {0}) Refusal) → or_later r later ≡ Ok tt → (r ≡ Ok tt) × (later ≡ Ok tt)
both_ended (Ok u) later e = (refl, e)
both_ended (Err r) later e = absurd (cc)

-- The first was refused, or those behind it were.
pub either_refused : (r later : Result (Unit {0}) Refusal) (e : Refusal) → or_later r later ≡ Err e → (r ≡ Err e) ⊎ ((r ≡ Ok tt) × (later ≡ Err e))
either_refused (Ok u) later e is = inr (refl, is)
either_refused (Err q) later e is = inl is

pub each_found : (p : Plan) (s : Region) (each : ℕ) (c : Caller) (ds : List Done) (own : List Entry) → DoesEach p s each c ds own
    → AllByRecursion (λ d. IsFoundAt p s each d.job d.answer) ds
each_found p s each c [] own h = tt
each_found p s each c (d ∷ ds) own h = ((c, h.0, h.3), each_found p s each c ds h.1 h.4)

-- Answers of all shares can be joined.
pub all_can_join : (k : Cut) (ds : List Done) → IsCut k → AllByRecursion (λ d. IsFoundAt k.plan k.segment k.each d.job d.answer) ds
    → ((number : ℕ) → times number (jobs_of ds) ≡ times number (range_with_len 0 (shares_in k))) → CanJoinAll k.plan (placed (nones (shares_in k)) ds)
all_can_join k ds is found once =
    let there = all_placed (IsFoundAt k.plan k.segment k.each) (shares_in k) ds found (once_among (shares_in k) (jobs_of ds) once) in
    (all_join k.plan k.segment k.each 0 (length (placed (nones (shares_in k)) ds)) (placed (nones (shares_in k)) ds) is.plan is.small (omega arith) there).can
