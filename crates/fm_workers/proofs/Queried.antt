-- What a query by a crew comes to.
use Rattle.std.proofs.Common.{◌≡◌, ℕ, ◌/◌, ◌%◌, ◌<◌, ◌≤◌, List, [], ◌∷◌, length, refl, sym, ap, ◌∙◌, subst, arith, inl, inr, Result, Ok, Err, IfOk}
use Rattle.std.{specs.{Prelude.{◌⊎◌, IfErr, ⊤}, List.{AllByRecursion}}}
use Rattle.fm_base.specs.declared.{arena_id.ArenaId.{ArenaId}, caller.Caller.{Caller}, kind.Kind.TheVariants.{Confined}, refusal.Refusal.{Refusal}}
use Rattle.fm_base.specs.{declared.refusal.Refusal.TheVariants.{Ragged, WrongThread, Closed, NoPass, Memory}, Calls.{Entry}}
use Rattle.fm_base.specs.{Finds.{Find, Gathered}, Histories.{made_by}}
use Rattle.fm_records.{proofs.{Few.{few_answer}, Sharing.{shares_join}}, specs.{declared.found.Found.{Found}, Few.{AreFew}}}
use Rattle.fm_records_query.specs.Plan.{Plan}
use Rattle.fm_rule_calls.specs.{Kept.{Lasts}, Told.{view_of_pass}}
use Rattle.fm_rule_facts.specs.Views.{View, IsSound}
use Rattle.fm_segment.specs.{Access.{IsKnown}, Region.{Region}}
use Rattle.fm_workers_crew.{specs.Crew.{AreTooMany, CrewGathered, IsWhole, callers}, proofs.Working.{nobody, lasts_none}}
use Rattle.fm_workers_shares.specs.{declared.answers.Done.{Done}, Answered.{AnsweredBy, all_of}, Asking.{asking}, Batches.{nones}, Ends.{FirstStopped, HasDone}}
use Rattle.fm_workers_shares.specs.{Joining.{CanJoinAll, joined_all}, Placing.{AreJoined, Slot, placed}, Shares.{Cut, IsCut, cut, each_of, shares_in}, Taking.{jobs_of}}
use Rattle.fm_workers_shares.proofs.{Ends.{all_can_join}, Once.{once_among}, Places.{all_placed, length-nones, length-placed}, Sharing.{IsAnsweredAt}, Standing.{answered_by}}
use Rattle.fm_workers.specs.{Asking.{known_later}, Beside.{AskedBeside, SharedBeside}, Query.{EndsQuery, IsOpenToAll, OnlyReads, QueriedWith}}
use Rattle.fm_workers.specs.Sharing.{AllMade, AreMade, HaveEnded, NoneBegun, SharedOut}
use Rattle.fm_workers.proofs.{Answering.{AskingStopped, all_answered, all_found, all_placed_by, all_read, asking_stopped, each_took, parts_are}}
use Rattle.fm_workers.proofs.{Asked.{idle_reads}, Sparing.{is_answer}}

-- what a part becomes of the places
abbrev pub Places : List Slot → List Done → List Slot → Type 0
Places behind part whole = whole ≡ placed behind part

-- the refusals before the first draw
abbrev pub IsEarly : Refusal → Type 0
IsEarly (Ragged n) = ⊤
IsEarly WrongThread = ⊤
IsEarly Memory = ⊤
IsEarly r = ⊥

early_not : (r : Refusal) → IsEarly r → ¬ (r ≡ NoPass)
early_not (Ragged n) early e = absurd (cc)
early_not WrongThread early e = absurd (cc)
early_not Memory early e = absurd (cc)
early_not r early e = absurd early

-- What is known behind a refusal: nothing of an answer.
refused : {old new : View} {p : Plan} {s : Region} {threads : ℕ} (r : Refusal) (crew : CrewGathered old new) → length crew.crew ≤ threads
    → (r ≡ NoPass → (length crew.crew < threads) × (IsWhole old → AreTooMany old threads))
    → AllByRecursion (λ c. OnlyReads s c (made_by c crew.more)) (callers crew.crew)
    → EndsQuery (each_of (s.size / p.size) threads) old new p s crew.more crew.crew crew.draws (Err r) → Lasts old new → IsKnown (view_of_pass old) s
    → (IsSound old → IsSound new) → QueriedWith threads old new p s (Err r)
refused r crew most wanting visits ends lasts known still_sound = record {
  crew = crew;
  one_each = most;
  one_less = λ e. let is : r ≡ NoPass = cc in (wanting is).0;
  visits = visits;
  ends = ends;
  value = tt;
  answer = tt;
  few = tt;
  wanting = λ w e. let is : r ≡ NoPass = cc in (wanting is).1 w;
  lasts = lasts;
  known = known_later lasts known;
  sound = tt;
  still_sound = still_sound;
}

-- Nothing was drawn.
pub queried_none : (v : View) (p : Plan) (s : Region) (threads : ℕ) (r : Refusal) → IsEarly r → IsKnown (view_of_pass v) s
    → EndsQuery (each_of (s.size / p.size) threads) v v p s [] [] [] (Err r) → QueriedWith threads v v p s (Err r)
unfolding nobody
queried_none v p s threads r early known ends =
    refused r (nobody v) (omega arith) (λ is. absurd (early_not r early is)) tt ends (lasts_none v) known (λ h. h)

-- ---- shares that were taken

never_wanting : (k : Cut) (cs : List Caller) (more : List Entry) (e : Refusal) → AskingStopped k cs more e → ¬ (e ≡ NoPass)
never_wanting k cs more e (inl m) q = let other : Memory ≡ NoPass = sym m.0 ∙ q in absurd (cc)
never_wanting k cs more e (inr f) q = let other : Closed ≡ NoPass = sym f.0 ∙ q in absurd (cc)

-- Each did all that it had to do.
made_done : (k : Cut) (more : List Entry) (cs : List Caller) (taken parts : List (List Done)) → AreMade (asking k) more cs taken parts
    → AllByRecursion (HasDone (asking k) more) cs
made_done k more [] [] [] h = tt
made_done k more (c ∷ cs) (ds ∷ taken) (p ∷ parts) h = ((ds, p, h.0), made_done k more cs taken parts h.1)
made_done k more cs taken parts h = absurd h

module _ (k : Cut) (is : IsCut k) (open_to_all : IsOpenToAll k.plan k.segment) where
  module _ (more : List Entry) (cs : List Caller) (slots : List Slot) (all : AllMade (asking k) Places cs more (nones (shares_in k)) slots) where
    slots_are : slots ≡ placed (nones (shares_in k)) (all_of all.taken)
    slots_are = all_placed_by (nones (shares_in k)) slots all.taken
        (subst (λ (ps : List (List Done)). AreJoined Places (nones (shares_in k)) ps slots) (parts_are k more cs all.taken all.parts all.made) all.joined)

    -- The answers can be joined.
    pub can_join : CanJoinAll k.plan slots
    can_join = subst (CanJoinAll k.plan) (sym slots_are)
        (all_can_join k (all_of all.taken) is (all_found k more cs all.taken all.parts all.made) all.once)

    pub by_shares : (a : List Found) → a ≡ joined_all k.plan slots → AnsweredBy k.plan k.segment k.each cs more a
    by_shares a joined =
        let there = all_placed (IsAnsweredAt k.plan k.segment k.each cs more) (shares_in k) (all_of all.taken)
        (all_answered k more cs all.taken all.parts all.made) (once_among (shares_in k) (jobs_of (all_of all.taken)) all.once) in
        let long = length-placed (nones (shares_in k)) (all_of all.taken) ∙ length-nones (shares_in k) in
        subst (AnsweredBy k.plan k.segment k.each cs more) (sym (joined ∙ ap (joined_all k.plan) slots_are))
        (answered_by k.plan k.segment k.each cs more (placed (nones (shares_in k)) (all_of all.taken)) all.taken is.some is.even long there
        (each_took k more cs all.taken all.parts all.made) all.once)

    pub few_answered : (a : List Found) → AnsweredBy k.plan k.segment k.each cs more a → AreFew k.segment.size k.plan a
    few_answered a by =
        let small = is.small in
        subst (AreFew k.segment.size k.plan) (sym by.joined)
        (shares_join k.plan k.segment more by.all.shares is.plan by.all.cut by.all.done (omega (arith, small))).few

  module _ (old new : View) (crew : List Gathered) (more : List Entry) (draws : List Find) where
    ends_so : (e : Refusal) → AskingStopped k (callers crew) more e → EndsQuery k.each old new k.plan k.segment more crew draws (Err e)
    ends_so e (inl m) = subst (λ (x : Refusal). EndsQuery k.each old new k.plan k.segment more crew draws (Err x)) (sym m.0) (open_to_all, m.1)
    ends_so e (inr f) = subst (λ (x : Refusal). EndsQuery k.each old new k.plan k.segment more crew draws (Err x)) (sym f.0) (open_to_all, f.1)

    none_ends : (threads : ℕ) (e : Refusal) → NoneBegun threads old crew more draws e → EndsQuery k.each old new k.plan k.segment more crew draws (Err e)
    none_ends threads Memory h =
        (open_to_all, inr (subst (λ (gs : List Gathered). AllByRecursion (HasDone (asking k) more) (callers gs)) (sym h) tt))
    none_ends threads NoPass h = (open_to_all, h.0)
    none_ends threads e h = absurd h

    -- A crew was refused.
    refused_ends : (threads : ℕ) (e : Refusal)
        → NoneBegun threads old crew more draws e ⊎ (HaveEnded (asking k) threads crew more × FirstStopped (asking k) (callers crew) more e)
        → EndsQuery k.each old new k.plan k.segment more crew draws (Err e)
    refused_ends threads e (inl h) = none_ends threads e h
    refused_ends threads e (inr h) = ends_so e (asking_stopped k more (callers crew) open_to_all.shared e h.1)

    -- All shares were answered, and memory was wanting to join the answers.
    wanting_ends : (taken parts : List (List Done)) → AreMade (asking k) more (callers crew) taken parts → (e : Refusal) → e ≡ Memory
        → EndsQuery k.each old new k.plan k.segment more crew draws (Err e)
    wanting_ends taken parts made e memory =
        subst (λ (x : Refusal). EndsQuery k.each old new k.plan k.segment more crew draws (Err x)) (sym memory)
        (open_to_all, inr (made_done k more (callers crew) taken parts made))

  module _ (old new : View) (slots : List Slot) (threads : ℕ) (same : k.each ≡ each_of (k.segment.size / k.plan.size) threads)
      (known : IsKnown (view_of_pass old) k.segment) where
    -- No answer came.
    pub queried_refused : (e : Refusal) → SharedOut (asking k) Places threads old new (nones (shares_in k)) slots (Err e)
        → QueriedWith threads old new k.plan k.segment (Err e)
    queried_refused e so = by so.ends
      where
        ends : EndsQuery (each_of (k.segment.size / k.plan.size) threads) old new k.plan k.segment so.crew.more so.crew.crew so.crew.draws (Err e)
        ends = subst (λ n. EndsQuery n old new k.plan k.segment so.crew.more so.crew.crew so.crew.draws (Err e)) same
            (refused_ends old new so.crew.crew so.crew.more so.crew.draws threads e so.ends)

        none : (r : Refusal) → r ≡ e → NoneBegun threads old so.crew.crew so.crew.more so.crew.draws r → QueriedWith threads old new k.plan k.segment (Err e)
        none Memory q h =
            let empty : length so.crew.crew ≡ 0 = ap (λ (gs : List Gathered). length gs) h in
            refused e so.crew (omega (arith, empty)) (λ n. let apart : Memory ≡ NoPass = q ∙ n in absurd (cc))
            (subst (λ (gs : List Gathered). AllByRecursion (λ c. OnlyReads k.segment c (made_by c so.crew.more)) (callers gs)) (sym h) tt)
            ends so.lasts known so.still_sound
        none NoPass q h =
            let less = h.1 in
            refused e so.crew (omega (arith, less)) (λ n. (h.1, h.3)) (idle_reads k.segment so.crew.more (callers so.crew.crew) h.2) ends so.lasts known
            so.still_sound
        none r q h = absurd h

        by : NoneBegun threads old so.crew.crew so.crew.more so.crew.draws e
            ⊎ (HaveEnded (asking k) threads so.crew.crew so.crew.more × FirstStopped (asking k) (callers so.crew.crew) so.crew.more e)
            → QueriedWith threads old new k.plan k.segment (Err e)
        by (inl h) = none e refl h
        by (inr h) =
            let n = h.0.count in
            refused e so.crew (omega (arith, n))
            (λ q. absurd (never_wanting k (callers so.crew.crew) so.crew.more e (asking_stopped k so.crew.more (callers so.crew.crew) open_to_all.shared e h.1) q))
            (all_read k so.crew.more (callers so.crew.crew) h.0.each) ends so.lasts known so.still_sound

    -- The answers were joined, or memory was wanting for that.
    pub queried : {u : Unit {0}} (so : SharedOut (asking k) Places threads old new (nones (shares_in k)) slots (Ok u)) (r : Result (List Found) Refusal)
        → IfOk r (λ a. a ≡ joined_all k.plan slots) → IfErr r (λ e. e ≡ Memory) → QueriedWith threads old new k.plan k.segment r
    queried so (Err e) joined memory =
        let n = so.ends.0.count in
        refused e so.crew (omega (arith, n)) (λ q. let apart : Memory ≡ NoPass = sym memory ∙ q in absurd (cc))
        (all_read k so.crew.more (callers so.crew.crew) so.ends.0.each)
        (subst (λ n. EndsQuery n old new k.plan k.segment so.crew.more so.crew.crew so.crew.draws (Err e)) same
        (wanting_ends old new so.crew.crew so.crew.more so.crew.draws so.ends.1.taken so.ends.1.parts so.ends.1.made e memory))
        so.lasts known so.still_sound
    queried so (Ok a) joined memory =
        let cs = callers so.crew.crew in
        let by = by_shares so.crew.more (callers so.crew.crew) slots so.ends.1 a joined in
        let visits = all_read k so.crew.more cs so.ends.0.each in
        let few = few_answered so.crew.more (callers so.crew.crew) slots so.ends.1 a by in
        let n = so.ends.0.count in
        record {
          crew = so.crew;
          one_each = omega (arith, n);
          one_less = λ e. absurd (cc);
          visits = visits;
          ends = subst (λ n. EndsQuery n old new k.plan k.segment so.crew.more so.crew.crew so.crew.draws (Ok a)) same (open_to_all, by);
          value = is_answer so.crew.more cs so.crew.seen (ap (λ (v : View). v.shape) so.crew.is) is.plan so.sound by visits;
          answer = few_answer k.segment.size k.plan.items a few;
          few = few;
          wanting = λ v e. absurd (cc);
          lasts = so.lasts;
          known = known_later so.lasts known;
          sound = so.sound;
          still_sound = so.still_sound;
        }

    -- ---- beside other work

    ended_read : (e : Refusal) (crew : List Gathered) (more : List Entry)
        → NoneBegun threads old crew more [] e ⊎ (HaveEnded (asking k) threads crew more × FirstStopped (asking k) (callers crew) more e)
        → AllByRecursion (λ c. OnlyReads k.segment c (made_by c more)) (callers crew)
    ended_read Memory crew more (inl h) =
        subst (λ (gs : List Gathered). AllByRecursion (λ c. OnlyReads k.segment c (made_by c more)) (callers gs)) (sym h) tt
    ended_read NoPass crew more (inl h) = idle_reads k.segment more (callers crew) h.2
    ended_read e crew more (inl h) = absurd h
    ended_read e crew more (inr h) = all_read k more (callers crew) h.0.each

    pub asked_refused : {Acts : List Entry → Type 0} (e : Refusal) → SharedBeside (asking k) Places Acts threads old new (nones (shares_in k)) slots (Err e)
        → AskedBeside Acts threads old new k.plan k.segment (Err e)
    asked_refused e so = record {
      crew = so.crew;
      visits = ended_read e so.crew.crew so.crew.more so.ends;
      ends = subst (λ n. EndsQuery n old new k.plan k.segment so.crew.more so.crew.crew [] (Err e)) same
          (refused_ends old new so.crew.crew so.crew.more [] threads e so.ends);
      value = tt;
      answer = tt;
      few = tt;
      known = known_later so.crew.lasts known;
    }

    pub asked_beside : {Acts : List Entry → Type 0} {u : Unit {0}} (so : SharedBeside (asking k) Places Acts threads old new (nones (shares_in k)) slots (Ok u))
        (r : Result (List Found) Refusal) → IfOk r (λ a. a ≡ joined_all k.plan slots) → IfErr r (λ e. e ≡ Memory)
        → AskedBeside Acts threads old new k.plan k.segment r
    asked_beside so (Err e) joined memory = record {
      crew = so.crew;
      visits = all_read k so.crew.more (callers so.crew.crew) so.ends.0.each;
      ends = subst (λ n. EndsQuery n old new k.plan k.segment so.crew.more so.crew.crew [] (Err e)) same
          (wanting_ends old new so.crew.crew so.crew.more [] so.ends.1.taken so.ends.1.parts so.ends.1.made e memory);
      value = tt;
      answer = tt;
      few = tt;
      known = known_later so.crew.lasts known;
    }
    asked_beside so (Ok a) joined memory =
        let cs = callers so.crew.crew in
        let by = by_shares so.crew.more (callers so.crew.crew) slots so.ends.1 a joined in
        let visits = all_read k so.crew.more cs so.ends.0.each in
        let few = few_answered so.crew.more (callers so.crew.crew) slots so.ends.1 a by in
        record {
          crew = so.crew;
          visits = visits;
          ends = subst (λ n. EndsQuery n old new k.plan k.segment so.crew.more so.crew.crew [] (Ok a)) same (open_to_all, by);
          value = is_answer so.crew.more cs so.crew.seen so.crew.shape is.plan so.crew.sound by visits;
          answer = few_answer k.segment.size k.plan.items a few;
          few = few;
          known = known_later so.crew.lasts known;
        }

-- ---- what a call cut

abbrev pub asked : Plan → Region → ℕ → Cut
asked p s threads = cut p s (each_of (s.size / p.size) threads)

module _ (p : Plan) (s : Region) (threads : ℕ) (k : Cut) (n : ℕ) (is : k ≡ asked p s threads) (count : n ≡ shares_in k) (start : List Slot) (none : start ≡ nones n)
    (old new : View) (slots : List Slot) (r : Result (Unit {0}) Refusal) where
  pub shared_asked : SharedOut (asking k) Places threads old new start slots r
      → SharedOut (asking (asked p s threads)) Places threads old new (nones (shares_in (asked p s threads))) slots r
  shared_asked so =
      subst (λ x. SharedOut (asking x) Places threads old new (nones (shares_in x)) slots r) is
      (subst (λ xs. SharedOut (asking k) Places threads old new xs slots r) (none ∙ ap nones count) so)

  pub beside_asked : (Acts : List Entry → Type 0) → SharedBeside (asking k) Places Acts threads old new start slots r
      → SharedBeside (asking (asked p s threads)) Places Acts threads old new (nones (shares_in (asked p s threads))) slots r
  beside_asked Acts so =
      subst (λ x. SharedBeside (asking x) Places Acts threads old new (nones (shares_in x)) slots r) is
      (subst (λ xs. SharedBeside (asking k) Places Acts threads old new xs slots r) (none ∙ ap nones count) so)

-- Whole records of an arena that isn't confined.
pub even_of : (p : Plan) (s : Region) (n m : ℕ) → n ≡ s.size → m ≡ p.size → n % m ≡ 0 → s.size % p.size ≡ 0
even_of p s n m size record_size e = (λ i. sym size i % sym record_size i) ∙ e

pub open_to_all : (p : Plan) (s : Region) (n m : ℕ) (a : ArenaId) → n ≡ s.size → m ≡ p.size → n % m ≡ 0 → a ≡ s.arena → ¬ (a.kind ≡ Confined) → IsOpenToAll p s
open_to_all p s n m a size record_size e is other = record {
  even = even_of p s n m size record_size e;
  shared = λ k. other (ap (λ (x : ArenaId). x.kind) is ∙ k);
}
