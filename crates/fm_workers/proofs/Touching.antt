-- What the passes of a tally did.
use Rattle.std.proofs.Common.{◌≡◌, ℕ, ◌<◌, ◌≤◌, List, [], ◌∷◌, ◌++◌, refl, sym, ap, ◌∙◌, subst, arith, append_assoc, inl, inr, ⊎_elim, Result, Ok, Err}
use Rattle.std.{specs.{Prelude.{◌⊎◌}, List.{AllByRecursion}}, proofs.lemmas.List.{append-nil}}
use Rattle.fm_base.specs.{declared.{arena_id.ArenaId.{ArenaId}, caller.Caller.{Caller}, refusal.Refusal.{Refusal, TheVariants.{Closed, Memory}}}, Calls.{Entry}}
use Rattle.fm_base.specs.{Histories.{made_by}, Visits.{refused_visit}}
use Rattle.fm_segment.specs.Region.{Region}
use Rattle.fm_records_query.specs.Plan.{Plan}
use Rattle.fm_records.specs.Reads.{IsWordOf}
use Rattle.fm_workers_shares.specs.{declared.answers.Done.{Done}, Ends.{FirstStopped, HasStopped, at_a_share, behind_all}, Shares.{Cut, share_of}, Taking.{HasMade}}
use Rattle.fm_workers.specs.Adding.{AddsAt, AddsBelow, DoesAdd, HasCounts, adds, count_word, none_yet, nothing, one_more}
use Rattle.fm_workers.specs.{Query.{OnlyReads, reads}, Sharing.{HasEnded}, Tallies.{DoesCount, tallying}}
use Rattle.fm_workers.specs.Tally.{FoundEitherClosed, OnlyAddsTo, OnlyTallies, closed, no_more, one_add}
use Rattle.fm_workers.proofs.{Asked.{no_reads, stops_count}, Reading.{each_read, reads_after, share_lies}}

-- ---- adds

is_count : (counts : Region) (k : ℕ) → HasCounts counts → k < 256 → IsWordOf counts (count_word counts k)
is_count counts k longs below =
    let size = longs.size in let even = longs.aligned in
    record { above = omega (arith, even); below = omega (arith, size, even, below) }

one_adds : (c : Caller) (counts : Region) (k n : ℕ) (own rest : List Entry) → HasCounts counts → k < 256 → AddsAt c counts k n own
    → OnlyAddsTo counts c rest → OnlyAddsTo counts c (own ++ rest)
one_adds c counts k n own rest longs below nothing r = r
one_adds c counts k n own rest longs below (adds found some) r = one_add (count_word counts k) n found rest (is_count counts k longs below) r

below_adds : (c : Caller) (counts : Region) (ns : List ℕ) (k : ℕ) (own rest : List Entry) → HasCounts counts → k ≤ 256 → AddsBelow c counts ns k own
    → OnlyAddsTo counts c rest → OnlyAddsTo counts c (own ++ rest)
below_adds c counts ns k own rest longs most none_yet r = r
below_adds c counts ns k own rest longs most (one_more {k = i} before more h a) r =
    subst (OnlyAddsTo counts c) (sym (append_assoc before more rest))
    (below_adds c counts ns i before (more ++ rest) longs (omega (arith, most)) h
    (one_adds c counts i _ more rest longs (omega (arith, most)) a r))

add_adds : (c : Caller) (counts : Region) (ns : List ℕ) (end : Result (Unit {0}) Refusal) (own : List Entry) → HasCounts counts
    → DoesAdd c counts ns end own → OnlyAddsTo counts c own
add_adds c counts ns (Ok u) own longs d = subst (OnlyAddsTo counts c) (append-nil own) (below_adds c counts ns 256 own [] longs (omega arith) d no_more)
add_adds c counts ns (Err Closed) own longs d =
    subst (OnlyAddsTo counts c) (sym d.stops) (below_adds c counts ns d.place d.before _ longs d.within d.added closed)
add_adds c counts ns (Err r) own longs d = absurd d

-- ---- shares

module _ (k : Cut) (counts : Region) (longs : HasCounts counts) where
  made_tally : {c : Caller} {ds : List Done} {ns : List ℕ} {end : Result (Unit {0}) Refusal} (own : List Entry) → HasMade (tallying k counts) c ds ns end own
      → OnlyTallies k.segment counts c own
  made_tally {c} {ds} {ns} {end} own h = record {
    reads = h.served;
    adds = h.last;
    parts = h.parts;
    are_reads = reads (each_read k.plan k.segment k.each c ds h.served h.does);
    are_adds = add_adds c counts ns end h.last longs h.ends;
  }

  stopped_tally : {c : Caller} {r : Refusal} (own : List Entry) → HasStopped (tallying k counts) r c own → OnlyTallies k.segment counts c own
  stopped_tally {c} {r} own (at_a_share ds number h) = record {
    reads = own;
    adds = [];
    parts = sym (append-nil own);
    are_reads = subst (OnlyReads k.segment c) (sym h.parts)
        (reads_after c k.segment h.served h.last (each_read k.plan k.segment k.each c ds h.served h.does)
        (stops_count c k.plan (share_of k.plan k.segment k.each number) k.segment r h.last (share_lies k.plan k.segment k.each number) h.refuses));
    are_adds = no_more;
  }
  stopped_tally own (behind_all ds ns h) = made_tally own h

  ended_tally : (more : List Entry) (c : Caller) → HasEnded (tallying k counts) more c → OnlyTallies k.segment counts c (made_by c more)
  ended_tally more c (inl h) = made_tally (made_by c more) h.2
  ended_tally more c (inr h) = stopped_tally (made_by c more) h.1

  pub crew_tallies : (more : List Entry) (cs : List Caller) → AllByRecursion (HasEnded (tallying k counts) more) cs
      → AllByRecursion (λ c. OnlyTallies k.segment counts c (made_by c more)) cs
  crew_tallies more [] h = tt
  crew_tallies more (c ∷ cs) h = (ended_tally more c h.0, crew_tallies more cs h.1)

pub idle_tallies : (s counts : Region) (more : List Entry) (cs : List Caller) → AllByRecursion (λ c. made_by c more ≡ []) cs
    → AllByRecursion (λ c. OnlyTallies s counts c (made_by c more)) cs
idle_tallies s counts more [] h = tt
idle_tallies s counts more (c ∷ cs) h = (
  record { reads = []; adds = []; parts = h.0; are_reads = no_reads c s [] refl; are_adds = no_more },
  idle_tallies s counts more cs h.1,
)

-- ---- refusals

-- how the adds of one ended
add_stopped : (c : Caller) (counts : Region) (ns : List ℕ) (r : Refusal) (more first own : List Entry) → own ≡ first ++ more → DoesAdd c counts ns (Err r) more
    → (r ≡ Closed) × ((before : List Entry) × (own ≡ before ++ refused_visit c counts.arena))
add_stopped c counts ns Closed more first own parts d =
    (refl, (first ++ d.before, parts ∙ ap (λ es. first ++ es) d.stops ∙ sym (append_assoc first d.before (refused_visit c counts.arena))))
add_stopped c counts ns r more first own parts d = absurd d

-- the caller's entries end where an arena was found closed
record EndsAs (c : Caller) (s counts : Region) (own : List Entry) : Type 0 where
  arena : ArenaId
  either : (arena ≡ s.arena) ⊎ (arena ≡ counts.arena)
  before : List Entry
  last : own ≡ before ++ refused_visit c arena

count_stopped : (c : Caller) (p : Plan) (part s counts : Region) (r : Refusal) (own served last : List Entry) → part.arena ≡ s.arena
    → own ≡ served ++ last → DoesCount c p part (Err r) last → (r ≡ Memory) ⊎ ((r ≡ Closed) × EndsAs c s counts own)
count_stopped c p part s counts Closed own served last same parts d = inr (
  refl,
  record {
    arena = part.arena;
    either = inl same;
    before = served ++ d.before;
    last = parts ∙ ap (λ es. served ++ es) d.stops ∙ sym (append_assoc served d.before (refused_visit c part.arena));
  },
)
count_stopped c p part s counts Memory own served last same parts d = inl refl
count_stopped c p part s counts r own served last same parts d = absurd d

module _ (k : Cut) (counts : Region) where
  tally_stopped : {c : Caller} {r : Refusal} (own : List Entry) → HasStopped (tallying k counts) r c own
      → (r ≡ Memory) ⊎ ((r ≡ Closed) × EndsAs c k.segment counts own)
  tally_stopped {c} {r} own (at_a_share ds number h) =
      count_stopped c k.plan (share_of k.plan k.segment k.each number) k.segment counts r own h.served h.last refl h.parts h.refuses
  tally_stopped {c} {r} own (behind_all ds ns h) =
      let e = add_stopped c counts ns r h.last h.served own h.parts h.ends in
      inr (e.0, record { arena = counts.arena; either = inr refl; before = e.1.0; last = e.1.1 })

  module _ (more : List Entry) (cs : List Caller) where
    -- the first that didn't count and add all wanted memory, or found an arena closed
    abbrev pub TallyStopped : Refusal → Type 0
    TallyStopped r =
        ((r ≡ Memory) × FirstStopped (tallying k counts) cs more Memory)
        ⊎ ((r ≡ Closed) × FoundEitherClosed k.plan k.segment counts k.each cs more)

    found_closed : (r : Refusal) (f : FirstStopped (tallying k counts) cs more r) → r ≡ Closed → EndsAs f.caller k.segment counts (made_by f.caller more)
        → FoundEitherClosed k.plan k.segment counts k.each cs more
    found_closed r f e ends =
        subst (λ (x : Refusal). (y : FirstStopped (tallying k counts) cs more x) → EndsAs y.caller k.segment counts (made_by y.caller more)
        → FoundEitherClosed k.plan k.segment counts k.each cs more) (sym e)
        (λ y h. record { first = y; arena = h.arena; either = h.either; before = h.before; last = h.last }) f ends

    pub crew_stops : (r : Refusal) → FirstStopped (tallying k counts) cs more r → TallyStopped r
    crew_stops r f =
        ⊎_elim (λ (m : r ≡ Memory). inl (m, subst (FirstStopped (tallying k counts) cs more) m f))
        (λ (c : (r ≡ Closed) × EndsAs f.caller k.segment counts (made_by f.caller more)). inr (c.0, found_closed r f c.0 c.1))
        (tally_stopped (made_by f.caller more) f.stopped)
