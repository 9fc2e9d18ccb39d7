-- What a tally by a crew comes to.
use Rattle.std.proofs.Common.{◌≡◌, ◌≢◌, ℕ, ◌/◌, ◌%◌, ◌^◌, ◌<◌, ◌≤◌, List, [], length, refl, sym, ap, ◌∙◌, subst, arith, inl, inr, ⊎_elim, Result, Ok, Err}
use Rattle.std.specs.{Prelude.{◌⊎◌, ⊤, ℤ}, List.{AllByRecursion, AllZip}}
use Rattle.fm_base_lists.{specs.Among.{IsAmong}, proofs.Each.{all_among, all_weaker}}
use Rattle.fm_base.specs.declared.{arena_id.ArenaId.{ArenaId}, caller.Caller.{Caller}, kind.Kind.TheVariants.{Confined}, refusal.Refusal.{Refusal}}
use Rattle.fm_base.specs.{declared.refusal.Refusal.TheVariants.{Unsupported, Ragged, WrongThread, Closed, NoPass, Memory}, Arenas.{word_in}, Calls.{Entry}}
use Rattle.fm_base.{specs.{Counting.{OnlyAdds}, Finds.{Gathered}, Histories.{made_by}, Untouched.{Spares}}, proofs.Counting.{counted as word_counted}}
use Rattle.fm_rule_facts.specs.Views.{IsSound, View, limit_of, state_in}
use Rattle.fm_rule_calls.{proofs.Going.{reached_by}, specs.{Kept.{Lasts}, Told.{view_of_pass}}}
use Rattle.fm_segment.specs.{Access.{IsKnown}, Region.{Region}}
use Rattle.fm_records_query.specs.Plan.{Plan}
use Rattle.fm_records.{specs.Shares.{IsSpared, Share}, proofs.Sharing.{shares_answer, shares_read}}
use Rattle.fm_workers_shares.specs.{Answered.{all_of}, Batches.{nones}, Ends.{FirstStopped}, Placing.{placed}, Shares.{Cut, IsCut, each_of, many_of}}
use Rattle.fm_workers_shares.proofs.Standing.{HasShares}
use Rattle.fm_workers_crew.{specs.Crew.{AreTooMany, CrewGathered, IsWhole, callers}, proofs.Working.{lasts_none, nobody}}
use Rattle.fm_workers.specs.{declared.tally.Total.{Total}, Adding.{HasCounts, count_word}, Asking.{known_later}, Counts.{AreCounts, IsTally, how_many, listed, number_of}}
use Rattle.fm_workers.specs.{Query.{NobodyElseWrites}, Sharing.{HaveEnded, NoneBegun, SharedOut}, Tallies.{all_numbers, tallying}}
use Rattle.fm_workers.specs.Tally.{AreAllRead, AreHeld, AreTheCounts, CanBeTallied, EndsTally, IsCounted, LeavesWord, OnlyTallies, TalliedBy, TalliedWith}
use Rattle.fm_workers.proofs.{Added.{by_crew, crew_adds}, Counted.{listed_joined}, CountedShares.{counted_shares, each_counted, same_numbers, tallied_by}}
use Rattle.fm_base.proofs.Either.{by_either}
use Rattle.fm_workers.proofs.{FewCounted.{shares_list}, Queried.{asked, even_of}, Sparing.{tallies_spare}}
use Rattle.fm_workers.proofs.Totals.{AreTotals, PassTotals, Sums, SumsTo, passes_counted, totals_counted}
use Rattle.fm_workers.proofs.Touching.{TallyStopped, crew_stops, crew_tallies, idle_tallies}

-- the refusals before the first draw
abbrev pub IsFirst : Refusal → Type 0
IsFirst Unsupported = ⊤
IsFirst (Ragged n) = ⊤
IsFirst WrongThread = ⊤
IsFirst Memory = ⊤
IsFirst r = ⊥

first_not : (r : Refusal) → IsFirst r → ¬ (r ≡ NoPass)
first_not Unsupported first e = absurd (cc)
first_not (Ragged n) first e = absurd (cc)
first_not WrongThread first e = absurd (cc)
first_not Memory first e = absurd (cc)
first_not r first e = absurd first

-- What is known behind a refusal: nothing of the counts.
refused : {old new : View} {p : Plan} {s counts : Region} {threads : ℕ} (r : Refusal) (crew : CrewGathered old new) → length crew.crew ≤ threads
    → (r ≡ NoPass → (length crew.crew < threads) × (IsWhole old → AreTooMany old threads))
    → AllByRecursion (λ c. OnlyTallies s counts c (made_by c crew.more)) (callers crew.crew)
    → EndsTally (each_of (s.size / p.size) threads) old new p s counts crew.more crew.crew crew.draws (Err r) → Lasts old new
    → IsKnown (view_of_pass old) s → IsKnown (view_of_pass old) counts → (IsSound old → IsSound new) → TalliedWith threads old new p s counts (Err r)
refused r crew most wanting visits ends lasts known counts_known still_sound = record {
  crew = crew;
  one_each = most;
  one_less = λ e. let is : r ≡ NoPass = cc in (wanting is).0;
  visits = visits;
  ends = ends;
  value = tt;
  read = tt;
  held = tt;
  wanting = λ w e. let is : r ≡ NoPass = cc in (wanting is).1 w;
  lasts = lasts;
  known = known_later lasts known;
  counts_known = known_later lasts counts_known;
  sound = tt;
  still_sound = still_sound;
}

-- Nothing was drawn.
pub tallied_none : (v : View) (p : Plan) (s counts : Region) (threads : ℕ) (r : Refusal) → IsFirst r → IsKnown (view_of_pass v) s
    → IsKnown (view_of_pass v) counts → EndsTally (each_of (s.size / p.size) threads) v v p s counts [] [] [] (Err r)
    → TalliedWith threads v v p s counts (Err r)
unfolding nobody
tallied_none v p s counts threads r first known counts_known ends =
    refused r (nobody v) (omega arith) (λ is. absurd (first_not r first is)) tt ends (lasts_none v) known counts_known (λ h. h)

-- ---- shares that were taken

stop_not : (k : Cut) (counts : Region) (cs : List Caller) (more : List Entry) (e : Refusal) → TallyStopped k counts more cs e → ¬ (e ≡ NoPass)
stop_not k counts cs more e (inl m) q = let apart : Memory ≡ NoPass = sym m.0 ∙ q in absurd (cc)
stop_not k counts cs more e (inr f) q = let apart : Closed ≡ NoPass = sym f.0 ∙ q in absurd (cc)

module _ (k : Cut) (counts : Region) (is : IsCut k) (can : CanBeTallied k.plan k.segment counts) (longs : HasCounts counts)
    (other : counts.arena ≢ k.segment.arena) (threads : ℕ) (same : k.each ≡ each_of (k.segment.size / k.plan.size) threads) (old new : View)
    (start whole : Total) where
  -- ---- all was counted

  module _ {u : Unit {0}} (so : SharedOut (tallying k counts) Sums threads old new start whole (Ok u)) where
    by_each : AllZip (IsCounted k.plan k.segment counts k.each so.crew.more) (callers so.crew.crew) so.ends.1.taken
    by_each = each_counted k counts so.crew.more (callers so.crew.crew) so.ends.1.taken so.ends.1.parts so.ends.1.made

    visits : AllByRecursion (λ c. OnlyTallies k.segment counts c (made_by c so.crew.more)) (callers so.crew.crew)
    visits = crew_tallies k counts longs so.crew.more (callers so.crew.crew) so.ends.0.each

    spared : NobodyElseWrites k.segment (callers so.crew.crew) so.crew.more → IsSpared (limit_of old.shape) (state_in old) so.crew.more k.segment
    spared nobody =
        let r = reached_by {p = old} {q = new} so.crew.more so.crew.seen (ap (λ (v : View). v.shape) so.crew.is) so.sound in
        record {
          legal = r.legal;
          spared = λ place from below. by_either (λ e. Spares k.segment.arena place e.call) (callers so.crew.crew) so.crew.more
              (nobody place from below) (tallies_spare k.segment counts place so.crew.more (callers so.crew.crew) other visits);
        }

    abbrev shares : HasShares k.plan k.segment k.each (callers so.crew.crew) so.crew.more k.segment 0
        (placed (nones (many_of (k.segment.size / k.plan.size) k.each)) (all_of so.ends.1.taken))
    shares = counted_shares k counts so.crew.more (callers so.crew.crew) so.ends.1.taken is.some is.even by_each so.ends.1.once

    few : (n : ℤ) → how_many n (all_numbers (all_of so.ends.1.taken)) ≤ k.segment.size
    few n =
        let same = same_numbers k counts so.crew.more (callers so.crew.crew) so.ends.1.taken is.some is.even by_each so.ends.1.once n in
        let most = shares_list k.plan k.segment so.crew.more shares.all.shares n is.plan can.tally shares.all.cut shares.all.done in
        omega (arith, same, most)

    -- So no sum passes 64 bits.
    never_passes : PassTotals so.ends.1.parts → ⊥
    never_passes passes =
        let often = passes_counted k counts so.crew.more (callers so.crew.crew) so.ends.1.taken so.ends.1.parts so.ends.1.made passes in
        let most = few (number_of often.0) in
        let over = often.1 in
        let small = is.small in
        omega (arith, most, over, small)

    module _ (ns : List ℕ) (totals : AreTotals so.ends.1.parts ns) where
      are_counts : AreCounts (all_numbers (all_of so.ends.1.taken)) ns
      are_counts = totals_counted k counts so.crew.more (callers so.crew.crew) so.ends.1.taken so.ends.1.parts ns so.ends.1.made totals

      by_shares : TalliedBy k.plan k.segment counts k.each (callers so.crew.crew) so.crew.more ns
      by_shares = tallied_by k counts so.crew.more (callers so.crew.crew) so.ends.1.taken is.some is.even by_each so.ends.1.once ns are_counts

      the_counts : AreTheCounts old k.plan k.segment (callers so.crew.crew) so.crew.more ns
      the_counts nobody =
          let answers = shares_answer (limit_of old.shape) (state_in old) so.crew.more k.plan k.segment by_shares.all.shares is.plan (spared nobody)
          by_shares.all.cut by_shares.all.done in
          subst (λ ms. AreCounts ms ns) (listed_joined k.plan so.crew.more by_shares.all.shares is.plan can.tally by_shares.all.done ∙ ap listed answers)
          by_shares.are

      all_read : AreAllRead old k.plan k.segment (callers so.crew.crew) so.crew.more
      all_read nobody index path steps word asked of =
          let x = shares_read (limit_of old.shape) (state_in old) so.crew.more k.plan k.segment by_shares.all.shares index path steps word is.plan
          (spared nobody) by_shares.all.cut by_shares.all.done asked of in
          record {
            caller = x.share.caller;
            among = all_among (λ (v : Share). IsAmong v.caller (callers so.crew.crew)) x.share by_shares.all.shares by_shares.all.callers x.among;
            read = x.read;
          }

      are_held : AreHeld old new counts (callers so.crew.crew) so.crew.more ns
      are_held n below zero_there leaves =
          let r = reached_by {p = old} {q = new} so.crew.more so.crew.seen (ap (λ (v : View). v.shape) so.crew.is) so.sound in
          let adds = crew_adds k counts so.crew.more (callers so.crew.crew) so.ends.1.taken so.ends.1.parts so.ends.1.made in
          let others = all_weaker (λ (e : Entry). IsAmong e.caller (callers so.crew.crew) ⊎ LeavesWord counts.arena (count_word counts n) e.call)
          (λ (e : Entry). IsAmong e.caller (callers so.crew.crew) ⊎ OnlyAdds counts.arena (count_word counts n) e.call)
          (λ e h. ⊎_elim (λ a. inl a) (λ (l : LeavesWord counts.arena (count_word counts n) e.call). inr l.0) h) so.crew.more leaves in
          let only = by_either (λ e. OnlyAdds counts.arena (count_word counts n) e.call) (callers so.crew.crew) so.crew.more others
          (adds.only counts.arena (count_word counts n)) in
          let low : word_in (state_in old) counts.arena (count_word counts n) < 2 ^ 64 = omega (arith, zero_there) in
          let now = word_counted (limit_of old.shape) (state_in old) so.crew.more counts.arena (count_word counts n) r.legal low only in
          let added = by_crew counts.arena (count_word counts n) so.crew.more (callers so.crew.crew) so.crew.distinct leaves in
          let sum = adds.sum n below in
          let mine = are_counts.each n below in
          let most = few (number_of n) in
          let small = is.small in
          ap (λ x. word_in x counts.arena (count_word counts n)) r.state ∙ omega (arith, zero_there, now, added, sum, mine, most, small)

  -- ---- what comes of it

  module _ (known : IsKnown (view_of_pass old) k.segment) (counts_known : IsKnown (view_of_pass old) counts) where
    -- No share was taken, or one that took shares was refused.
    pub tallied_refused : (e : Refusal) → SharedOut (tallying k counts) Sums threads old new start whole (Err e)
        → TalliedWith threads old new k.plan k.segment counts (Err e)
    tallied_refused e so = by so.ends
      where
        none : (r : Refusal) → r ≡ e → NoneBegun threads old so.crew.crew so.crew.more so.crew.draws r
            → TalliedWith threads old new k.plan k.segment counts (Err e)
        none Memory q h =
            let empty : length so.crew.crew ≡ 0 = ap (λ (gs : List Gathered). length gs) h in
            refused e so.crew (omega (arith, empty)) (λ n. let apart : Memory ≡ NoPass = q ∙ n in absurd (cc))
            (subst (λ (gs : List Gathered). AllByRecursion (λ c. OnlyTallies k.segment counts c (made_by c so.crew.more)) (callers gs)) (sym h) tt)
            (subst (λ x. EndsTally (each_of (k.segment.size / k.plan.size) threads) old new k.plan k.segment counts so.crew.more so.crew.crew so.crew.draws (Err x)) q
            (can, inr (ap callers h))) so.lasts known counts_known so.still_sound
        none NoPass q h =
            let less = h.1 in
            refused e so.crew (omega (arith, less)) (λ n. (h.1, h.3)) (idle_tallies k.segment counts so.crew.more (callers so.crew.crew) h.2)
            (subst (λ x. EndsTally (each_of (k.segment.size / k.plan.size) threads) old new k.plan k.segment counts so.crew.more so.crew.crew so.crew.draws (Err x)) q
            (can, h.0)) so.lasts known counts_known so.still_sound
        none r q h = absurd h

        stop_ends : TallyStopped k counts so.crew.more (callers so.crew.crew) e
            → EndsTally (each_of (k.segment.size / k.plan.size) threads) old new k.plan k.segment counts so.crew.more so.crew.crew so.crew.draws (Err e)
        stop_ends (inl m) =
            subst (λ n. EndsTally n old new k.plan k.segment counts so.crew.more so.crew.crew so.crew.draws (Err e)) same
            (subst (λ (x : Refusal). EndsTally k.each old new k.plan k.segment counts so.crew.more so.crew.crew so.crew.draws (Err x)) (sym m.0) (can, inl m.1))
        stop_ends (inr f) =
            subst (λ n. EndsTally n old new k.plan k.segment counts so.crew.more so.crew.crew so.crew.draws (Err e)) same
            (subst (λ (x : Refusal). EndsTally k.each old new k.plan k.segment counts so.crew.more so.crew.crew so.crew.draws (Err x)) (sym f.0) (can, f.1))

        by : NoneBegun threads old so.crew.crew so.crew.more so.crew.draws e
            ⊎ (HaveEnded (tallying k counts) threads so.crew.crew so.crew.more × FirstStopped (tallying k counts) (callers so.crew.crew) so.crew.more e)
            → TalliedWith threads old new k.plan k.segment counts (Err e)
        by (inl h) = none e refl h
        by (inr h) =
            let n = h.0.count in
            let stops = crew_stops k counts so.crew.more (callers so.crew.crew) e h.1 in
            refused e so.crew (omega (arith, n)) (λ q. absurd (stop_not k counts (callers so.crew.crew) so.crew.more e stops q))
            (crew_tallies k counts longs so.crew.more (callers so.crew.crew) h.0.each) (stop_ends stops) so.lasts known counts_known so.still_sound

    -- All shares were counted.
    pub tallied : {u : Unit {0}} (so : SharedOut (tallying k counts) Sums threads old new start whole (Ok u)) (r : Result (List ℕ) Refusal)
        → SumsTo so.ends.1.parts r → TalliedWith threads old new k.plan k.segment counts r
    tallied so (Err e) sums = absurd (never_passes so sums.1)
    tallied so (Ok ns) sums = record {
      crew = so.crew;
      one_each = (let n = so.ends.0.count in omega (arith, n));
      one_less = λ e. absurd (cc);
      visits = visits so;
      ends = subst (λ n. EndsTally n old new k.plan k.segment counts so.crew.more so.crew.crew so.crew.draws (Ok ns)) same (can, by_shares so ns sums);
      value = the_counts so ns sums;
      read = all_read so ns sums;
      held = are_held so ns sums;
      wanting = λ v e. absurd (cc);
      lasts = so.lasts;
      known = known_later so.lasts known;
      counts_known = known_later so.lasts counts_known;
      sound = so.sound;
      still_sound = so.still_sound;
    }

-- What a call cut.
pub shared_tallied : (p : Plan) (s counts : Region) (threads : ℕ) (k : Cut) → k ≡ asked p s threads → (old new : View) (start whole : Total)
    (r : Result (Unit {0}) Refusal) → SharedOut (tallying k counts) Sums threads old new start whole r
    → SharedOut (tallying (asked p s threads) counts) Sums threads old new start whole r
shared_tallied p s counts threads k is old new start whole r so = subst (λ x. SharedOut (tallying x counts) Sums threads old new start whole r) is so

-- What the tests found.
pub can_be_tallied : (p : Plan) (s counts : Region) (n m : ℕ) (a b : ArenaId) → IsTally p → n ≡ s.size → m ≡ p.size → n % m ≡ 0 → a ≡ s.arena
    → ¬ (a.kind ≡ Confined) → b ≡ counts.arena → ¬ (b.kind ≡ Confined) → CanBeTallied p s counts
can_be_tallied p s counts n m a b tally size record_size e is other same apart = record {
  tally = tally;
  even = even_of p s n m size record_size e;
  shared = λ q. other (ap (λ (x : ArenaId). x.kind) is ∙ q);
  shared_counts = λ q. apart (ap (λ (x : ArenaId). x.kind) same ∙ q);
}
