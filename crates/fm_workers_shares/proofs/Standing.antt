-- Shares by number, whose answers stand at their places.
use Rattle.std.proofs.Common.{◌≡◌, ℕ, ◌+◌, ◌-◌, ◌*◌, ◌/◌, ◌%◌, ◌<◌, List, [], ◌∷◌, length, map, Some, refl, ap, ◌∙◌, subst, arith}
use Rattle.std.specs.List.{AllZip, range_with_len}
use Rattle.fm_base.specs.{declared.caller.Caller.{Caller}, Calls.{Entry}, Histories.{made_by}}
use Rattle.fm_workers_jobs.specs.Turns.{times}
use Rattle.fm_segment.specs.Region.{Region}
use Rattle.fm_records_query.specs.Plan.{Plan}
use Rattle.fm_records.specs.{Joined.{joined}, Shares.{AreCut, Share, all_joined}}
use Rattle.fm_workers_shares.specs.{declared.answers.Done.{Done}, Answered.{AnsweredBy, AnsweredShares, all_of}, Joining.{joined_all}, Placing.{Slot}}
use Rattle.fm_workers_shares.specs.{Shares.{many_of, piece, share_of, start_of}, Taking.{DoesEach, jobs_of}}
use Rattle.fm_workers_shares.proofs.{Numbers.{start_first, start_last, start_order, start_within}, Places.{AreAll}}
use Rattle.fm_workers_shares.proofs.Sharing.{IsAnsweredAt, behind_piece, first_of_piece, whole_piece}

-- the answer stands at its place
abbrev pub stands : Share → Slot
stands w = Some w.found

-- They come to the shares' answers, joined.
standing_joined : (p : Plan) (ws : List Share) → joined_all p (map stands ws) ≡ all_joined p ws
standing_joined p [] = refl
standing_joined p (w ∷ ws) = ap (joined w.found) (standing_joined p ws)

module _ (p : Plan) (s : Region) (each : ℕ) (crew : List Caller) (more : List Entry) where
  -- the shares from this number on, which are all of this part, and whose answers stand there
  pub record HasShares (part : Region) (k : ℕ) (us : List Slot) : Type 0 where
    pub all : AnsweredShares p s each crew more part k
    pub stand : us ≡ map stands all.shares

  shares_from : (k : ℕ) (us : List Slot) → 0 < each → k + length us ≡ many_of (s.size / p.size) each → AreAll (IsAnsweredAt p s each crew more) k us
      → HasShares (piece p s (start_of (s.size / p.size) each k) (s.size / p.size)) k us
  shares_from k [] some ends h =
      let here : k ≡ many_of (s.size / p.size) each = omega (arith, ends) in
      let all : start_of (s.size / p.size) each k ≡ s.size / p.size = ap (start_of (s.size / p.size) each) here ∙ start_last (s.size / p.size) each some in
      record {
        all = record {
          shares = [];
          cut = (
              let none : s.size / p.size - start_of (s.size / p.size) each k ≡ 0 = omega (arith, all) in
              let bytes = ap (λ (n : ℕ). n * p.size) none in
              omega (arith, bytes)
              );
          numbered = here;
          callers = tt;
          done = tt;
        };
        stand = refl;
      }
  shares_from k (u ∷ us) some ends h =
      let rest = shares_from (k + 1) us some (omega (arith, ends)) h.1 in
      let order = start_order (s.size / p.size) each k in
      let within = start_within (s.size / p.size) each (k + 1) in
      let here = h.0.2 in
      let w : Share = record { caller = here.caller; region = share_of p s each k; found = h.0.0; own = here.own } in
      let is_behind = behind_piece p s (share_of p s each k) (start_of (s.size / p.size) each k) (start_of (s.size / p.size) each (k + 1)) (s.size / p.size)
      order within refl in
      record {
        all = record {
          shares = w ∷ rest.all.shares;
          cut = (
            first_of_piece p s (start_of (s.size / p.size) each k) (start_of (s.size / p.size) each (k + 1)) (s.size / p.size) w order within refl,
            subst (λ (r : Region). AreCut p r rest.all.shares) is_behind rest.all.cut,
          );
          numbered = (refl, rest.all.numbered);
          callers = (here.among, rest.all.callers);
          done = (record { run = here.run; does = here.does }, rest.all.done);
        };
        stand = (λ i. h.0.1 i ∷ rest.stand i);
      }

  -- Answers at all places are those of all shares.
  pub all_shares : (us : List Slot) → 0 < each → s.size % p.size ≡ 0 → length us ≡ many_of (s.size / p.size) each
      → AreAll (IsAnsweredAt p s each crew more) 0 us → HasShares s 0 us
  all_shares us some even long h =
      let first : piece p s (start_of (s.size / p.size) each 0) (s.size / p.size) ≡ s =
      ap (λ (n : ℕ). piece p s n (s.size / p.size)) (start_first (s.size / p.size) each) ∙ whole_piece p s even in
      subst (λ (r : Region). HasShares r 0 us) first (shares_from 0 us some (omega (arith, long)) h)

  -- All shares were answered, each once.
  pub answered_by : (us : List Slot) (taken : List (List Done)) → 0 < each → s.size % p.size ≡ 0 → length us ≡ many_of (s.size / p.size) each
      → AreAll (IsAnsweredAt p s each crew more) 0 us → AllZip (λ c ds. DoesEach p s each c ds (made_by c more)) crew taken
      → ((number : ℕ) → times number (jobs_of (all_of taken)) ≡ times number (range_with_len 0 (many_of (s.size / p.size) each)))
      → AnsweredBy p s each crew more (joined_all p us)
  answered_by us taken some even long h by_each once =
      let have = all_shares us some even long h in
      record {
        all = have.all;
        joined = ap (joined_all p) have.stand ∙ standing_joined p have.all.shares;
        taken = taken;
        by_each = by_each;
        once = once;
      }
