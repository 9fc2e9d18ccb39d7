-- What the passes of a query did.
use Rattle.std.proofs.Common.{◌≡◌, ◌≢◌, ℕ, ◌+◌, ◌-◌, ◌/◌, List, [], ◌∷◌, ◌++◌, refl, sym, ap, ◌∙◌, subst, inl, inr, ⊎_elim, Ok, Err}
use Rattle.std.{specs.{Prelude.{◌⊎◌}, List.{AllByRecursion, AllZip}}, proofs.{Math.Nat.{mul-mod_left}, lemmas.List.{append-nil}}}
use Rattle.fm_base_lists.{specs.Among.{IsAmong}, proofs.Each.{all_both}}
use Rattle.fm_base.specs.declared.{caller.Caller.{Caller}, kind.Kind.TheVariants.{Confined}, refusal.Refusal.{Refusal, TheVariants.{Closed, Memory}}}
use Rattle.fm_base.specs.{Calls.{Entry}, Histories.{made_by}}
use Rattle.fm_records.{specs.Reads.{StopsReading}, proofs.Visiting.{StopsReading-after}}
use Rattle.fm_workers_shares.specs.{declared.answers.Done.{Done}, Answered.{all_of}, Asking.{asking}, Ends.{FirstStopped, HasStopped, at_a_share, behind_all}}
use Rattle.fm_workers_shares.specs.{Placing.{AreJoined, Slot, placed}, Shares.{Cut, share_of, start_of}, Taking.{DoesEach, HasMade, WasRefused}}
use Rattle.fm_workers_shares.proofs.{Each.{answered_each}, Ends.{each_found}, Joins.{IsFoundAt}, Places.{placed-append}, Sharing.{IsAnsweredAt}}
use Rattle.fm_workers.specs.{Query.{FoundClosed, OnlyReads, WantedMemory}, Sharing.{AreMade, HasEnded}}
use Rattle.fm_workers.proofs.{Asked.{no_reads, query_reads, stopped_by, stops_wider}, Reading.{each_read, reads_after, share_lies}}

module _ (k : Cut) where
  -- ---- what was read

  made_read : {c : Caller} {ds part : List Done} {end : _} (own : List Entry) → HasMade (asking k) c ds part end own → OnlyReads k.segment c own
  made_read {c} {ds} own h =
      subst (OnlyReads k.segment c) (sym h.parts)
      (reads_after c k.segment h.served h.last (each_read k.plan k.segment k.each c ds h.served h.does) (no_reads c k.segment h.last h.ends.1))

  refused_read : {c : Caller} {ds : List Done} {number : ℕ} {r : Refusal} (own : List Entry) → WasRefused (asking k) c ds number r own
      → OnlyReads k.segment c own
  refused_read {c} {ds} {number} {r} own h =
      subst (OnlyReads k.segment c) (sym h.parts)
      (reads_after c k.segment h.served h.last (each_read k.plan k.segment k.each c ds h.served h.does)
      (query_reads c k.plan (share_of k.plan k.segment k.each number) k.segment (Err r) h.last (share_lies k.plan k.segment k.each number) h.refuses))

  stopped_read : {c : Caller} {r : Refusal} (own : List Entry) → HasStopped (asking k) r c own → OnlyReads k.segment c own
  stopped_read own (at_a_share ds number h) = refused_read own h
  stopped_read own (behind_all ds part h) = made_read own h

  module _ (more : List Entry) where
    ended_read : (c : Caller) → HasEnded (asking k) more c → OnlyReads k.segment c (made_by c more)
    ended_read c (inl h) = made_read (made_by c more) h.2
    ended_read c (inr h) = stopped_read (made_by c more) h.1

    pub all_read : (cs : List Caller) → AllByRecursion (HasEnded (asking k) more) cs → AllByRecursion (λ c. OnlyReads k.segment c (made_by c more)) cs
    all_read [] h = tt
    all_read (c ∷ cs) h = (ended_read c h.0, all_read cs h.1)

    -- ---- what was answered

    own_served : (c : Caller) (ds part : List Done) → HasMade (asking k) c ds part (Ok tt) (made_by c more)
        → DoesEach k.plan k.segment k.each c ds (made_by c more)
    own_served c ds part h =
        let own : made_by c more ≡ h.served = h.parts ∙ ap (λ (es : List Entry). h.served ++ es) h.ends.1 ∙ append-nil h.served in
        subst (DoesEach k.plan k.segment k.each c ds) (sym own) h.does

    pub each_took : (cs : List Caller) (taken parts : List (List Done)) → AreMade (asking k) more cs taken parts
        → AllZip (λ c ds. DoesEach k.plan k.segment k.each c ds (made_by c more)) cs taken
    each_took [] [] [] h = tt
    each_took (c ∷ cs) (ds ∷ taken) (p ∷ parts) h = (own_served c ds p h.0, each_took cs taken parts h.1)
    each_took cs taken parts h = absurd h

    -- Each keeps what it answered.
    pub parts_are : (cs : List Caller) (taken parts : List (List Done)) → AreMade (asking k) more cs taken parts → parts ≡ taken
    parts_are [] [] [] h = refl
    parts_are (c ∷ cs) (ds ∷ taken) (p ∷ parts) h = (λ i. h.0.holds i ∷ parts_are cs taken parts h.1 i)
    parts_are cs taken parts h = absurd h

    pub all_found : (cs : List Caller) (taken parts : List (List Done)) → AreMade (asking k) more cs taken parts
        → AllByRecursion (λ (d : Done). IsFoundAt k.plan k.segment k.each d.job d.answer) (all_of taken)
    all_found [] [] [] h = tt
    all_found (c ∷ cs) (ds ∷ taken) (p ∷ parts) h =
        all_both (λ (d : Done). IsFoundAt k.plan k.segment k.each d.job d.answer) ds (all_of taken)
        (each_found k.plan k.segment k.each c ds h.0.served h.0.does) (all_found cs taken parts h.1)
    all_found cs taken parts h = absurd h

    answered_by : (crew cs : List Caller) (taken parts : List (List Done)) → ((c : Caller) → IsAmong c cs → IsAmong c crew)
        → AreMade (asking k) more cs taken parts
        → AllByRecursion (λ (d : Done). IsAnsweredAt k.plan k.segment k.each crew more d.job d.answer) (all_of taken)
    answered_by crew [] [] [] among h = tt
    answered_by crew (c ∷ cs) (ds ∷ taken) (p ∷ parts) among h =
        all_both (λ (d : Done). IsAnsweredAt k.plan k.segment k.each crew more d.job d.answer) ds (all_of taken)
        (answered_each k.plan k.segment k.each crew more c ds [] h.0.served h.0.last (among c (inl refl)) h.0.parts h.0.does)
        (answered_by crew cs taken parts (λ x i. among x (inr i)) h.1)
    answered_by crew cs taken parts among h = absurd h

    pub all_answered : (cs : List Caller) (taken parts : List (List Done)) → AreMade (asking k) more cs taken parts
        → AllByRecursion (λ (d : Done). IsAnsweredAt k.plan k.segment k.each cs more d.job d.answer) (all_of taken)
    all_answered cs taken parts h = answered_by cs cs taken parts (λ c i. i) h

-- They stand at their places.
pub all_placed_by : (start slots : List Slot) (taken : List (List Done)) → AreJoined (λ behind part whole. whole ≡ placed behind part) start taken slots
    → slots ≡ placed start (all_of taken)
all_placed_by start slots [] h = h
all_placed_by start slots (ds ∷ taken) h =
    h.2 ∙ ap (λ (xs : List Slot). placed xs ds) (all_placed_by start h.0 taken h.1) ∙ sym (placed-append start ds (all_of taken))

-- ---- refusals

-- memory was wanting, or the first that was refused found the arena closed
abbrev pub AskingStopped : Cut → List Caller → List Entry → Refusal → Type 0
AskingStopped k cs more r =
    ((r ≡ Memory) × WantedMemory k.plan k.segment k.each cs more) ⊎ ((r ≡ Closed) × FoundClosed k.plan k.segment k.each cs more)

module _ (k : Cut) (more : List Entry) (cs : List Caller) (open_to_all : k.segment.arena.kind ≢ Confined) where
  found_closed : (r : Refusal) (f : FirstStopped (asking k) cs more r) → r ≡ Closed → StopsReading f.caller k.segment (made_by f.caller more)
      → FoundClosed k.plan k.segment k.each cs more
  found_closed r f e stops =
      subst (λ (x : Refusal). (y : FirstStopped (asking k) cs more x) → StopsReading y.caller k.segment (made_by y.caller more)
      → FoundClosed k.plan k.segment k.each cs more) (sym e) (λ y h. record { first = y; stops = h }) f stops

  pub asking_stopped : (r : Refusal) → FirstStopped (asking k) cs more r → AskingStopped k cs more r
  asking_stopped r f = by f.stopped
    where
      by : HasStopped (asking k) r f.caller (made_by f.caller more) → AskingStopped k cs more r
      by (behind_all ds part h) = let apart = h.ends.0 in absurd (cc)
      by (at_a_share ds number h) =
          ⊎_elim (λ (m : r ≡ Memory). inl (m, inl (subst (FirstStopped (asking k) cs more) m f)))
          (λ (c : (r ≡ Closed) × StopsReading f.caller (share_of k.plan k.segment k.each number) h.last). inr (
            c.0,
            found_closed r f c.0 (subst (StopsReading f.caller k.segment) (sym h.parts)
                (StopsReading-after f.caller k.segment h.served h.last (each_read k.plan k.segment k.each f.caller ds h.served h.does)
                (stops_wider f.caller (share_of k.plan k.segment k.each number) k.segment h.last (share_lies k.plan k.segment k.each number) c.1))),
          ))
          (stopped_by f.caller k.plan (share_of k.plan k.segment k.each number) r h.last
          (mul-mod_left (start_of (k.segment.size / k.plan.size) k.each (number + 1) - start_of (k.segment.size / k.plan.size) k.each number) k.plan.size)
          (λ is. absurd (open_to_all is)) h.refuses)
