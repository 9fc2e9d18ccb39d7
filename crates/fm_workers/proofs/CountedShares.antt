-- What a crew counted, share by share.
use Rattle.std.{proofs.Common.{◌≡◌, ℕ, ◌/◌, ◌%◌, ◌<◌, List, [], ◌∷◌, map, refl, sym, ap, ◌∙◌, arith, inl, inr}, specs.Prelude.{ℤ, sum_by}}
use Rattle.std.{specs.List.{AllByRecursion, AllZip, range_with_len}, proofs.lemmas.List.Sums.{sum_by-cons}}
use Rattle.fm_base_lists.{specs.Among.{IsAmong}, proofs.Each.{all_both}}
use Rattle.fm_base.specs.{declared.caller.Caller.{Caller}, Calls.{Entry}}
use Rattle.fm_records.specs.{declared.found.Found.{Found}, Shares.{Share}}
use Rattle.fm_workers_jobs.specs.Turns.{times}
use Rattle.fm_workers_shares.specs.{declared.answers.Done.{Done}, Answered.{all_of}, Batches.{nones}, Placing.{Slot, placed}, Shares.{Cut, many_of}, Taking.{jobs_of}}
use Rattle.fm_workers_shares.proofs.{Each.{answered_each}, Standing.{HasShares, all_shares, stands}, Once.{once_among}}
use Rattle.fm_workers_shares.proofs.{Places.{all_placed, length-nones, length-placed}, Sharing.{IsAnsweredAt}, Weighing.{placed_weigh, slot_weight}}
use Rattle.fm_segment.specs.Region.{Region}
use Rattle.fm_workers.specs.{Counts.{AreCounts, how_many, listed, number_of}, Sharing.{AreMade}}
use Rattle.fm_workers.specs.{Tallies.{all_numbers, tallying}, Tally.{IsCounted, TalliedBy, all_listed}}
use Rattle.fm_workers.proofs.Numbers.{how_many-append}

module _ (k : Cut) (counts : Region) (more : List Entry) where
  pub each_counted : (cs : List Caller) (taken : List (List Done)) (parts : List (List ℕ)) → AreMade (tallying k counts) more cs taken parts
      → AllZip (IsCounted k.plan k.segment counts k.each more) cs taken
  each_counted [] [] [] h = tt
  each_counted (c ∷ cs) (ds ∷ taken) (p ∷ parts) h = ((p, h.0), each_counted cs taken parts h.1)
  each_counted cs taken parts h = absurd h

  -- Each share that was taken was answered by a run of somebody's entries.
  all_answered : (crew cs : List Caller) (taken : List (List Done)) → ((c : Caller) → IsAmong c cs → IsAmong c crew)
      → AllZip (IsCounted k.plan k.segment counts k.each more) cs taken
      → AllByRecursion (λ (d : Done). IsAnsweredAt k.plan k.segment k.each crew more d.job d.answer) (all_of taken)
  all_answered crew [] [] among h = tt
  all_answered crew (c ∷ cs) (ds ∷ taken) among h =
      all_both (λ (d : Done). IsAnsweredAt k.plan k.segment k.each crew more d.job d.answer) ds (all_of taken)
      (answered_each k.plan k.segment k.each crew more c ds [] h.0.1.served h.0.1.last (among c (inl refl)) h.0.1.parts h.0.1.does)
      (all_answered crew cs taken (λ x i. among x (inr i)) h.1)
  all_answered crew cs taken among h = absurd h

-- ---- how often a number comes

-- in the answers that were taken
taken_list : (n : ℤ) (ds : List Done) → sum_by (λ (d : Done). how_many n (listed d.answer)) ds ≡ how_many n (all_numbers ds)
taken_list n [] = refl
taken_list n (d ∷ ds) =
    let all = sum_by-cons (λ (x : Done). how_many n (listed x.answer)) d ds in
    let rest = taken_list n ds in
    let both = how_many-append n (listed d.answer) (all_numbers ds) in
    omega (arith, all, rest, both)

-- at the shares' places
stand_list : (n : ℤ) (ws : List Share) → sum_by (slot_weight (λ (fs : List Found). how_many n (listed fs))) (map stands ws) ≡ how_many n (all_listed ws)
stand_list n [] = refl
stand_list n (w ∷ ws) =
    let all = sum_by-cons (slot_weight (λ (fs : List Found). how_many n (listed fs))) (stands w) (map stands ws) in
    let rest = stand_list n ws in
    let both = how_many-append n (listed w.found) (all_listed ws) in
    omega (arith, all, rest, both)

-- ---- all shares

module _ (k : Cut) (counts : Region) (more : List Entry) (cs : List Caller) (taken : List (List Done)) (some : 0 < k.each) (even : k.segment.size % k.plan.size ≡ 0)
    (by_each : AllZip (IsCounted k.plan k.segment counts k.each more) cs taken)
    (once : (n : ℕ) → times n (jobs_of (all_of taken)) ≡ times n (range_with_len 0 (many_of (k.segment.size / k.plan.size) k.each))) where
  abbrev many : ℕ
  many = many_of (k.segment.size / k.plan.size) k.each

  abbrev slots : List Slot
  slots = placed (nones (many_of (k.segment.size / k.plan.size) k.each)) (all_of taken)

  -- They stand at their places.
  pub counted_shares : HasShares k.plan k.segment k.each cs more k.segment 0 (placed (nones (many_of (k.segment.size / k.plan.size) k.each)) (all_of taken))
  counted_shares =
      let there = all_placed (IsAnsweredAt k.plan k.segment k.each cs more) many (all_of taken) (all_answered k counts more cs cs taken (λ c i. i) by_each)
      (once_among many (jobs_of (all_of taken)) once) in
      let long = length-placed (nones many) (all_of taken) ∙ length-nones many in
      all_shares k.plan k.segment k.each cs more slots some even long there

  -- What is listed over all shares is what was listed over all that were taken.
  pub same_numbers : (n : ℤ) → how_many n (all_listed counted_shares.all.shares) ≡ how_many n (all_numbers (all_of taken))
  same_numbers n =
      let weight : List Found → ℕ = λ fs. how_many n (listed fs) in
      let stand = ap (λ (us : List Slot). sum_by (slot_weight (λ (fs : List Found). how_many n (listed fs))) us) counted_shares.stand in
      let weigh = placed_weigh (λ (fs : List Found). how_many n (listed fs)) many (all_of taken) (λ m. let same = once m in omega (arith, same)) in
      let here = stand_list n counted_shares.all.shares in
      let there = taken_list n (all_of taken) in
      sym here ∙ sym stand ∙ weigh ∙ there

  pub tallied_by : (ns : List ℕ) → AreCounts (all_numbers (all_of taken)) ns → TalliedBy k.plan k.segment counts k.each cs more ns
  tallied_by ns are = record {
    all = counted_shares.all;
    are = record { all = are.all; each = λ n below. are.each n below ∙ sym (same_numbers (number_of n)) };
    taken = taken;
    by_each = by_each;
    once = once;
  }
