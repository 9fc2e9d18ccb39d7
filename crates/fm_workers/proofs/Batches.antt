-- What comes of a batch that a crew takes.
use Rattle.std.proofs.Common.{◌≡◌, ℕ, ◌<◌, List, [], ◌∷◌, length, refl, sym, ap, ◌∙◌, subst, arith, inl, inr, ⊎_elim, Result, Ok, Err, IfOk}
use Rattle.std.{specs.{List.{AllByRecursion, AllZip}}, proofs.lemmas.List.{length-map}}
use Rattle.fm_base.specs.{declared.{caller.Caller.{Caller}, refusal.Refusal.{Refusal, TheVariants.{Memory, NoPass}}}, Calls.{Entry}}
use Rattle.fm_base.specs.{Finds.{Find, Gathered}, Histories.{made_by}}
use Rattle.fm_rule_facts.specs.Views.{IsSound, View}
use Rattle.fm_workers_jobs.specs.{declared.{account.Account.{Account}, jobs.Jobs.{Jobs}}, Turns.{HasAccount, IsTaker, Turn, account_of}}
use Rattle.fm_workers_shares.specs.{declared.{answers.Done.{Done}, batch.Batch.{Batch}, taker.Taker.{Taker}}, Batches.{IsBegun, begun}, Finishing.{CanFinish, Finishes}}
use Rattle.fm_workers_shares.specs.{Ends.{FirstStopped, HasStopped, at_a_share, behind_all}, Placing.{end_of, parts_of, turns_of}, Shares.{shares_in}}
use Rattle.fm_workers_shares.specs.Taking.{HasMade, IsReady, Making, Takes, to_a_refusal, to_its_stop, took}
use Rattle.fm_workers_shares.proofs.{Absorbing.{TookShares, each_once}, Ends.{both_ended, either_refused}}
use Rattle.fm_workers.specs.{Beside.{SharedBeside}, Sharing.{AreMade, EndsSharing, HasEnded, HaveEnded, SharedOut}}
use Rattle.fm_workers_crew.specs.{Beside.{WorkedBeside}, Crew.{AreTooMany, CrewWorked, by_caller, callers}}
use Rattle.fm_workers_crew.proofs.{Callers.{AreDoneBy, done_by_crew, worked_by_callers}, Working.{lasts_none, nobody}}

pub many : (gs : List Gathered) → length (callers gs) ≡ length gs
many gs = length-map gs (λ (g : Gathered). g.caller)

tasks_count : {T : Type 0} (Does : Caller → T → T → List Entry → Type 0) (more : List Entry) (cs : List Caller) (ts us : List T)
    → AreDoneBy Does more cs ts us → length cs ≡ length ts
tasks_count Does more [] [] [] d = refl
tasks_count Does more (c ∷ cs) (t ∷ ts) (u ∷ us) d = let e = tasks_count Does more cs ts us d.1 in omega (arith, e)
tasks_count Does more cs ts us d = absurd d

done_count : {T : Type 0} (Does : Caller → T → T → List Entry → Type 0) (more : List Entry) (cs : List Caller) (ts us : List T)
    → AreDoneBy Does more cs ts us → length us ≡ length ts
done_count Does more [] [] [] d = refl
done_count Does more (c ∷ cs) (t ∷ ts) (u ∷ us) d = let e = done_count Does more cs ts us d.1 in omega (arith, e)
done_count Does more cs ts us d = absurd d

module _ {P : Type 0} (w : Making P) (jobs : Jobs) (more : List Entry) where
  -- what a pass of the crew does with its taker
  abbrev pub TakesAll : Caller → Taker P → Taker P → List Entry → Type 0
  TakesAll c old new own = Takes w jobs c new own

  is_taker : {turn : Turn} {taken : List ℕ} {ended : ℕ} → HasAccount jobs turn (took taken ended) → IsTaker jobs turn
  is_taker h = record { is_of = h.is_of; role = ap (λ (v : Account). v.role) h.is }

  takes_turn : (c : Caller) (u : Taker P) (own : List Entry) → Takes w jobs c u own → IsTaker jobs u.turn
  takes_turn c u own (to_its_stop ds account made) = is_taker account
  takes_turn c u own (to_a_refusal ds number r account end refused) = is_taker account

  -- All have their turns still.
  pub are_takers : (cs : List Caller) (ts us : List (Taker P)) → AreDoneBy TakesAll more cs ts us → AllByRecursion (λ t. IsTaker jobs t.turn) us
  are_takers [] [] [] d = tt
  are_takers (c ∷ cs) (t ∷ ts) (u ∷ us) d = (takes_turn c u (made_by c more) d.0, are_takers cs ts us d.1)
  are_takers cs ts us d = absurd d

  -- ---- how each ended

  made_ends : (c : Caller) (ds : List Done) (part : P) (end : Result (Unit {0}) Refusal) → HasMade w c ds part end (made_by c more) → HasEnded w more c
  made_ends c ds part (Ok u) made = inl (ds, part, made)
  made_ends c ds part (Err r) made = inr (r, behind_all ds part made)

  takes_end : (c : Caller) (u : Taker P) → Takes w jobs c u (made_by c more) → HasEnded w more c
  takes_end c u (to_its_stop ds account made) = made_ends c ds u.part u.end made
  takes_end c u (to_a_refusal ds number r account end refused) = inr (r, at_a_share ds number refused)

  pub all_ended : (cs : List Caller) (ts us : List (Taker P)) → AreDoneBy TakesAll more cs ts us → AllByRecursion (HasEnded w more) cs
  all_ended [] [] [] d = tt
  all_ended (c ∷ cs) (t ∷ ts) (u ∷ us) d = (takes_end c u d.0, all_ended cs ts us d.1)
  all_ended cs ts us d = absurd d

  -- ---- where none was refused

  record MadeAll (cs : List Caller) (us : List (Taker P)) : Type 0 where
    taken : List (List Done)
    made : AreMade w more cs taken (parts_of us)
    took : AllZip (TookShares jobs) (turns_of us) taken

  made_one : (c : Caller) (u : Taker P) → u.end ≡ Ok tt → Takes w jobs c u (made_by c more)
      → (ds : List Done) × HasMade w c ds u.part (Ok tt) (made_by c more) × TookShares jobs u.turn ds
  made_one c u e (to_its_stop ds account made) = (ds, subst (λ r. HasMade w c ds u.part r (made_by c more)) e made, account)
  made_one c u e (to_a_refusal ds number r account end refused) = let apart : Err r ≡ Ok tt = sym end ∙ e in absurd (cc)

  made_all : (cs : List Caller) (ts us : List (Taker P)) → AreDoneBy TakesAll more cs ts us → end_of us ≡ Ok tt → MadeAll cs us
  made_all [] [] [] d e = record { taken = []; made = tt; took = tt }
  made_all (c ∷ cs) (t ∷ ts) (u ∷ us) d e =
      let both = both_ended u.end (end_of us) e in
      let mine = made_one c u both.0 d.0 in
      let rest = made_all cs ts us d.1 both.1 in
      record { taken = mine.0 ∷ rest.taken; made = (mine.1, rest.made); took = (mine.2, rest.took) }
  made_all cs ts us d e = absurd d

  -- ---- where one was

  stopped_one : (c : Caller) (u : Taker P) (r : Refusal) → u.end ≡ Err r → Takes w jobs c u (made_by c more) → HasStopped w r c (made_by c more)
  stopped_one c u r e (to_its_stop ds account made) = behind_all ds u.part (subst (λ x. HasMade w c ds u.part x (made_by c more)) e made)
  stopped_one c u r e (to_a_refusal ds number q account end refused) =
      let both : Err q ≡ Err r = sym end ∙ e in
      let same : q ≡ r = cc in
      subst (λ x. HasStopped w x c (made_by c more)) same (at_a_share ds number refused)

  first_stopped : (cs : List Caller) (ts us : List (Taker P)) (r : Refusal) → AreDoneBy TakesAll more cs ts us → end_of us ≡ Err r
      → FirstStopped w cs more r
  first_stopped [] [] [] r d e = absurd (cc)
  first_stopped (c ∷ cs) (t ∷ ts) (u ∷ us) r d e =
      ⊎_elim
      (λ (mine : u.end ≡ Err r). record {
        before = [];
        caller = c;
        after = cs;
        parts = refl;
        done = tt;
        stopped = stopped_one c u r mine d.0;
      })
      (λ (later : (u.end ≡ Ok tt) × (end_of us ≡ Err r)).
      let mine = made_one c u later.0 d.0 in
      let rest = first_stopped cs ts us r d.1 later.1 in
      record {
        before = c ∷ rest.before;
        caller = rest.caller;
        after = rest.after;
        parts = ap (λ (xs : List Caller). c ∷ xs) rest.parts;
        done = ((mine.0, u.part, mine.1), rest.done);
        stopped = rest.stopped;
      })
      (either_refused u.end (end_of us) r e)
  first_stopped cs ts us r d e = absurd d

-- ---- what comes of it

module _ {P : Type 0} (w : Making P) (threads : ℕ) (b : Batch P) (us : List (Taker P)) (begun_so : IsBegun w threads b) where
  module _ (more : List Entry) (cs : List Caller) (done : AreDoneBy (TakesAll w b.jobs more) more cs b.takers.items us) where
    so_many : length us ≡ threads
    so_many = done_count (TakesAll w b.jobs more) more cs b.takers.items us done ∙ begun_so.count

    pub can_finish : CanFinish b.jobs b.giver us
    can_finish = record {
      giver = record { is_of = begun_so.giver.is_of; role = ap (λ (v : Account). v.role) begun_so.giver.is };
      out = (let out = ap (λ (v : Account). v.out) begun_so.giver.is in let n = so_many in omega (arith, out, n));
      takers = are_takers w b.jobs more cs b.takers.items us done;
    }

    pub ends_sharing : {W : Type 0} (joins : W → P → W → Type 0) (start whole : W) (some : 0 < threads) (old : View) (crew : List Gathered) (draws : List Find) (r : Result (Unit {0}) Refusal) → cs ≡ callers crew
        → Finishes joins (account_of b.giver) us start whole r → EndsSharing w joins threads old crew more draws start whole r
    ends_sharing joins start whole some old crew draws r are f = by r f
      where
        have_ended : HaveEnded w threads crew more
        have_ended = record {
          count = sym (many crew) ∙ ap (λ (xs : List Caller). length xs) (sym are) ∙ tasks_count (TakesAll w b.jobs more) more cs b.takers.items us done
              ∙ begun_so.count;
          each = subst (AllByRecursion (HasEnded w more)) are (all_ended w b.jobs more cs b.takers.items us done);
        }

        by : (q : Result (Unit {0}) Refusal) → Finishes joins (account_of b.giver) us start whole q → EndsSharing w joins threads old crew more draws start whole q
        by (Ok u) h =
            let all = made_all w b.jobs more cs b.takers.items us done h.0.end in
            let n = so_many in
            let turns = length-map us (λ (t : Taker P). t.turn) in (
              have_ended,
              record {
                taken = all.taken;
                parts = parts_of us;
                made = subst (λ xs. AreMade w more xs all.taken (parts_of us)) are all.made;
                once = each_once b.jobs (shares_in w.cut) (account_of b.giver) (turns_of us) all.taken
                    (begun_so.giver.is ∙ ap (λ (m : ℕ). begun (shares_in w.cut) m) (sym (turns ∙ n))) h.0.settled (omega (arith, turns, n, some)) all.took;
                joined = h.1;
              },
            )
        by (Err r) h = inr (have_ended, subst (λ xs. FirstStopped w xs more r) are (first_stopped w b.jobs more cs b.takers.items us r done h.0))

  pub can_finish_crew : {old new : View} {u : Unit {0}} (cw : CrewWorked (by_caller (λ c old new. Takes w b.jobs c new)) old new b.takers.items us (Ok u))
      → CanFinish b.jobs b.giver us
  can_finish_crew cw = can_finish cw.crew.more (callers cw.crew.crew) (worked_by_callers (λ c old new. Takes w b.jobs c new) cw)

  pub can_finish_beside : {Acts : List Entry → Type 0} {old new : View}
      (cw : WorkedBeside (by_caller (λ c old new. Takes w b.jobs c new)) Acts old new b.takers.items us) → CanFinish b.jobs b.giver us
  can_finish_beside cw = can_finish cw.crew.more (callers cw.crew.crew)
      (done_by_crew (λ c old new. Takes w b.jobs c new) cw.crew.more cw.crew.passes b.takers.items us cw.crew.are_passes cw.each)

  module _ {W : Type 0} (joins : W → P → W → Type 0) (start whole : W) where
    -- All shares were taken, or a taker was refused.
    pub shared_out : {old new : View} {u : Unit {0}} (some : 0 < threads)
        (cw : CrewWorked (by_caller (λ c old new. Takes w b.jobs c new)) old new b.takers.items us (Ok u))
        (r : Result (Unit {0}) Refusal) → Finishes joins (account_of b.giver) us start whole r → SharedOut w joins threads old new start whole r
    shared_out {old} {new} some cw r f = record {
      crew = cw.crew;
      ends = ends_sharing cw.crew.more (callers cw.crew.crew) (worked_by_callers (λ c old new. Takes w b.jobs c new) cw) joins start whole some old
          cw.crew.crew cw.crew.draws r refl f;
      lasts = cw.lasts;
      sound = so r;
      still_sound = cw.still_sound;
    }
      where
        is_sound : IsSound new
        is_sound = cw.sound (λ e. absurd (cc))

        so : (q : Result (Unit {0}) Refusal) → IfOk q (λ _. IsSound new)
        so (Ok u) = is_sound
        so (Err e) = tt

    pub shared_beside : {Acts : List Entry → Type 0} {old new : View} (some : 0 < threads)
        (cw : WorkedBeside (by_caller (λ c old new. Takes w b.jobs c new)) Acts old new b.takers.items us)
        (r : Result (Unit {0}) Refusal) → Finishes joins (account_of b.giver) us start whole r → SharedBeside w joins Acts threads old new start whole r
    shared_beside {old = old} some cw r f = record {
      crew = cw.crew;
      ends = ends_sharing cw.crew.more (callers cw.crew.crew)
          (done_by_crew (λ c old new. Takes w b.jobs c new) cw.crew.more cw.crew.passes b.takers.items us cw.crew.are_passes cw.each) joins start whole some
          old cw.crew.crew [] r refl f;
    }

    -- No share was taken.
    pub shared_refused : {old new : View} (r : Refusal)
        → CrewWorked (by_caller (λ c old new. Takes w b.jobs c new)) old new b.takers.items us (Err r) → SharedOut w joins threads old new start whole (Err r)
    shared_refused {old} NoPass cw = record {
      crew = cw.crew;
      ends = inl (
        cw.ends.0,
        (let less = cw.ends.1 in let count = begun_so.count in omega (arith, less, count)),
        cw.ends.2,
        λ x. subst (AreTooMany old) begun_so.count (cw.wanting x refl),
      );
      lasts = cw.lasts;
      sound = tt;
      still_sound = cw.still_sound;
    }
    shared_refused Memory cw = record { crew = cw.crew; ends = inl cw.ends.1; lasts = cw.lasts; sound = tt; still_sound = cw.still_sound }
    shared_refused r cw = absurd cw.ends

-- Memory was wanting for the batch.
pub shared_none : {P W : Type 0} (w : Making P) (joins : W → P → W → Type 0) (threads : ℕ) (v : View) (start : W)
    → SharedOut w joins threads v v start start (Err Memory)
unfolding nobody
shared_none w joins threads v start = record { crew = nobody v; ends = inl refl; lasts = lasts_none v; sound = tt; still_sound = λ h. h }

-- All takers can begin.
pub can_take_all : {P : Type 0} (w : Making P) (jobs : Jobs) (Can : Type 0) (ts : List (Taker P)) → Can → AllByRecursion (IsReady w jobs) ts
    → AllByRecursion (λ t. Can × IsReady w jobs t) ts
can_take_all w jobs Can [] can h = tt
can_take_all w jobs Can (t ∷ ts) can h = ((can, h.0), can_take_all w jobs Can ts can h.1)
