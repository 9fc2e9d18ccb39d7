-- Counts beside records in a pool, and what a crew counts.
use Rattle.std.proofs.Common.{◌≡◌, ℕ, ◌+◌, ◌*◌, ◌%◌, ◌<◌, ◌≤◌, List, [], ◌∷◌, Result, Ok, Err, IfErr, IfOk, refl, ap, sym, ◌∙◌, subst, inl, inr, arith}
use Rattle.std.{specs.{Prelude.{◌⊎◌}, List.{AllByRecursion}}, proofs.lemmas.{Result.{IfOk-weaker}}}
use Rattle.fm_base.specs.declared.{arena_id.ArenaId.{ArenaId}, caller.Caller.{Caller}, kind.Kind.TheVariants.{Confined, Shared}, refusal.Refusal.{Refusal}}
use Rattle.fm_base.specs.{declared.refusal.Refusal.TheVariants.{Unsupported, Ragged, WrongThread, Closed, NoPass, Memory}}
use Rattle.fm_base.specs.{Calls.{Add, Entry, Found}, Histories.{made_by}, Untouched.{ComesIn, Spares}, Visits.{visit}}
use Rattle.fm_gate.specs.{Needs.{IsOutside}}
use Rattle.fm_base_lists.{specs.Among.{IsAmong}, proofs.Each.{all_both, all_weaker}}
use Rattle.fm_rule_facts.specs.{Views.{View, IsSound}}
use Rattle.fm_records_query.specs.Plan.{Plan}
use Rattle.fm_records.specs.{Answers.{answer}, Reads.{IsWordOf}}
use Rattle.fm_rule.specs.declared.pool.Pool.{Pool}
use Rattle.fm_segment.specs.Region.{Region, region_of}
use Rattle.fm_workers.specs.{Adding.{HasCounts}, Counts.{AreCounts, IsTally, listed}, Query.{NobodyElseWrites}}
use Rattle.fm_workers.specs.Tally.{CanTallyWith, OnlyAddsTo, no_more, closed, one_add, OnlyTallies, TalliedWith}
use Rattle.fm_workers_crew.specs.Crew.{callers}
use Rattle.fm_top_pooled.specs.{Asking.{Asked, HasPasses}, Stocked.{IsStocked, bytes_in_pool}}
use Rattle.fm_top_pooled.specs.{Besides.{IsBeside}, Tallied.{counts_size}}
use Rattle.fm_top_pooled.proofs.Crews.{AllTouch, Touches, bytes_stay, crew_touches, not_stopped, only_reads_touch, records_spared, stays_alive, stocked_still}
use Rattle.fm_top_pooled.proofs.{Shows.{asked, can_ask, is_whole, never_wanting, pooled_is}}

-- ---- room for counts

longs_of : (counts : Region) → counts ≡ region_of counts.arena 0 counts_size → HasCounts counts
longs_of counts is = subst HasCounts (sym is) (record { size = refl; aligned = refl })

pub can_tally : {pool : Pool} {p : View} {s counts : Region} (plan : Plan) (threads : ℕ) → IsStocked pool p s → IsBeside p s counts counts_size → 0 < threads
    → threads ≤ 16 → CanTallyWith pool p plan s counts threads
can_tally {counts = counts} plan threads h b some few = record {
  query = can_ask plan threads h some few;
  known = b.known;
  longs = longs_of counts b.all;
  written = ap (λ (r : Region). r.read_only) b.all;
  other = b.other;
}

-- ---- what the crew does

-- a word of the counts may be added to
abbrev MayCount : Region → ArenaId → ℕ → Type 0
MayCount counts a word = (a ≡ counts.arena) × IsWordOf counts word

adds_touch : (counts : Region) (c : Caller) (own : List Entry) → OnlyAddsTo counts c own → AllTouch (MayCount counts) own
adds_touch counts c own no_more = tt
adds_touch counts c own closed = (tt, tt)
adds_touch counts c own (one_add word n found rest is more) =
    all_both (λ e. Touches (MayCount counts) e.call) (visit c counts.arena ((Add counts.arena word n, Found found) ∷ [])) rest (tt, ((refl, is), (tt, tt)))
    (adds_touch counts c rest more)

tallies_touch : (s counts : Region) (c : Caller) (own : List Entry) → OnlyTallies s counts c own → AllTouch (MayCount counts) own
tallies_touch s counts c own t =
    subst (AllTouch (MayCount counts)) (sym t.parts)
    (all_both (λ e. Touches (MayCount counts) e.call) t.reads t.adds (only_reads_touch (MayCount counts) s c t.reads t.are_reads)
    (adds_touch counts c t.adds t.are_adds))

pub not_confined : {pool : Pool} {p : View} {s counts : Region} {size : ℕ} → IsStocked pool p s → IsBeside p s counts size
    → (s.arena.kind ≡ Confined) ⊎ (counts.arena.kind ≡ Confined) → ⊥
not_confined h b (inl is) = let kind : Confined ≡ Shared = sym is ∙ h.shared in absurd (cc)
not_confined h b (inr is) = let kind : Confined ≡ Shared = sym is ∙ b.shared in absurd (cc)

-- a word of the counts lies within them
within : (counts : Region) → HasCounts counts → (a : ArenaId) (word : ℕ) → MayCount counts a word
    → (a ≡ counts.arena) × (8 * word + 8 ≤ counts.first + counts.size)
within counts longs a word may =
    let aligned = longs.aligned in
    let size = longs.size in
    let below = may.1.below in
    (may.0, omega (arith, aligned, size, below))

module _ {pool : Pool} {p q : View} {s counts : Region} {plan : Plan} {threads : ℕ} (h : IsStocked pool p s) (b : IsBeside p s counts counts_size) (sound : IsSound q) where
  touch : {r : Result (List ℕ) Refusal} (w : TalliedWith threads p q plan s counts r) → AllTouch (MayCount counts) w.crew.more
  touch w =
      let cs = callers w.crew.crew in
      crew_touches (MayCount counts) cs w.crew.more (w.crew.alone (is_whole h))
      (all_weaker (λ (c : Caller). OnlyTallies s counts c (made_by c w.crew.more)) (λ (c : Caller). AllTouch (MayCount counts) (made_by c w.crew.more))
      (λ c t. tallies_touch s counts c (made_by c w.crew.more) t) cs w.visits)

  -- neither arena is found closed
  all_come : {r : Result (List ℕ) Refusal} (w : TalliedWith threads p q plan s counts r) (a : ArenaId) → (a ≡ s.arena) ⊎ (a ≡ counts.arena)
      → AllByRecursion (ComesIn a) w.crew.more
  all_come w a (inl is) = subst (λ (x : ArenaId). AllByRecursion (ComesIn x) w.crew.more) (sym is)
      (stays_alive (MayCount counts) h w.crew sound (touch w) s.arena h.known.arena h.alive).1
  all_come w a (inr is) = subst (λ (x : ArenaId). AllByRecursion (ComesIn x) w.crew.more) (sym is)
      (stays_alive (MayCount counts) h w.crew sound (touch w) counts.arena b.known.arena b.alive).1

  -- only memory can be wanting
  pub only_wants : (r : Result (List ℕ) Refusal) → TalliedWith threads p q plan s counts r → IsTally plan → s.size % plan.size ≡ 0 → HasPasses p threads
      → IfErr r (λ e. e ≡ Memory)
  only_wants (Ok ns) w tally even passes = tt
  only_wants (Err Unsupported) w tally even passes = absurd (w.ends.0 tally)
  only_wants (Err (Ragged rest)) w tally even passes =
      let some = w.ends.2 in
      let is = w.ends.1 in
      absurd (omega (arith, some, is, even))
  only_wants (Err WrongThread) w tally even passes = absurd (not_confined h b w.ends.2)
  only_wants (Err Closed) w tally even passes =
      let found = w.ends.1 in
      absurd (not_stopped found.arena found.first.caller w.crew.more found.before (all_come w found.arena found.either) found.last)
  only_wants (Err NoPass) w tally even passes =
      absurd (never_wanting threads h passes (w.wanting (is_whole h) refl))
  only_wants (Err Memory) w tally even passes = refl
  only_wants (Err r) w tally even passes = absurd w.ends

  nobody_else : {r : Result (List ℕ) Refusal} (w : TalliedWith threads p q plan s counts r) → NobodyElseWrites s (callers w.crew.crew) w.crew.more
  nobody_else w = λ place from below.
      all_weaker (λ (e : Entry). IsAmong e.caller (callers w.crew.crew)) (λ (e : Entry). IsAmong e.caller (callers w.crew.crew) ⊎ Spares s.arena place e.call)
      (λ e i. inl i) w.crew.more (w.crew.alone (is_whole h))

  -- the counts are those of the numbers that are listed over the bytes
  counts_all : (ns : List ℕ) → TalliedWith threads p q plan s counts (Ok ns) → AreCounts (listed (answer plan (bytes_in_pool p s))) ns
  counts_all ns w =
      subst (λ (bs : List ℕ). AreCounts (listed (answer plan bs)) ns) (sym (pooled_is p s)) (w.value (nobody_else w))

  was_tallied : (ns : List ℕ) → TalliedWith threads p q plan s counts (Ok ns) → IsOutside pool q → Asked threads pool p q plan s
  was_tallied ns w outside =
      asked threads plan h w.crew w.one_each (w.read (nobody_else w))
      (stocked_still (MayCount counts) h w.crew sound (touch w) outside w.known counts.arena (counts.first + counts.size) b.known.given
      (within counts (longs_of counts b.all)))
      (bytes_stay (MayCount counts) h w.crew sound (touch w) (λ a word may is. b.other (sym may.0 ∙ is)))
      (records_spared (MayCount counts) h w.crew sound (touch w) (λ a word may is. b.other (sym may.0 ∙ is)))

  -- so it is where they were handed on
  module _ {E : Type 0} {found : Result (List ℕ) Refusal} (result : Result (List ℕ) E) (w : TalliedWith threads p q plan s counts found)
      (handed : IfOk result (λ ns. found ≡ Ok ns)) where
    as_found : {P : List ℕ → Type 0} → ((ns : List ℕ) → TalliedWith threads p q plan s counts (Ok ns) → P ns) → IfOk result P
    as_found says = IfOk-weaker result _ _ (λ ns is. says ns (subst (λ r. TalliedWith threads p q plan s counts r) is w)) handed

    pub hands_counts : IfOk result (AreCounts (listed (answer plan (bytes_in_pool p s))))
    hands_counts = as_found counts_all

    pub hands_asked : IsOutside pool q → IfOk result (λ _. Asked threads pool p q plan s)
    hands_asked outside = as_found (λ ns tallied. was_tallied ns tallied outside)
