-- What a close outlives.
use Rattle.std.{proofs.Common.{◌≡◌, ◌≢◌, List, [], ◌∷◌, Bool, true, false, if◌then◌else◌, refl, ap, sym, ◌∙◌, Some}, specs.Prelude.{Result, Ok, Err}}
use Rattle.fm_base.specs.{declared.{arena_id.ArenaId.{ArenaId}, refusal.Refusal.{Refusal}}, Arenas.{same_id}, Calls.{Entry}}
use Rattle.fm_base.{specs.Finds.{Stretch, Walk, Close, Sweep, Rest}, proofs.Names.{same_id-true}}
use Rattle.fm_base_machine.proofs.Putting.{same_id-not}
use Rattle.fm_rule_facts.specs.{Views.{View}, Closes.{passed_of, one_more, advanced, dropped}}
use Rattle.fm_rule_calls.{specs.Kept.{Goes, rest_of}, proofs.Going.{known_on}}
use Rattle.fm_gate.{specs.Makers.{made_by_pass}, proofs.Outside.{made_on}}
use Rattle.fm_close.specs.declared.{shutting.Shutting.{Shutting}, outcome.Visit.{Visit, TheVariants.{Next, Inside, Ended}}}
use Rattle.fm_close.specs.Learnt.{IsUnderWay, IsToSweep, closes_shut, closes_visited, sweeps_visited}
use Rattle.fm_close.specs.CloseLaws.{CloseStands, SweepStands, StandsBeside, StandsThrough, CloseLasts}

-- ---- closes and sweeps of other arenas in the lists

-- The walk of another arena is as far as before.
passed_of-other : {over : Stretch} (cs : List (Walk over)) (a b : ArenaId) → a ≢ b → passed_of (advanced a cs) b ≡ passed_of cs b
passed_of-other [] a b n = refl
passed_of-other (c ∷ cs) a b n =
    let P : Bool → Type 0 = λ t. same_id c.arena a ≡ t
    → passed_of (if t then one_more c ∷ cs else c ∷ advanced a cs) b ≡ (if same_id c.arena b then Some c.passed else passed_of cs b) in
    let go : (t : Bool) → P t = λ t. elim t as P [
      | true ↦ (λ e.
          let f : same_id c.arena b ≡ false = ap (λ i. same_id i b) (same_id-true c.arena a e) ∙ same_id-not a b n in
          ap (λ t. if t then Some (one_more c).passed else passed_of cs b) f ∙ sym (ap (λ t. if t then Some c.passed else passed_of cs b) f))
      | false ↦ (λ e. ap (λ x. if same_id c.arena b then Some c.passed else x) (passed_of-other cs a b n))
    ] in
    go (same_id c.arena a) refl

-- So where that other one is dropped.
pub passed_of-dropped : {over : Stretch} (cs : List (Walk over)) (a b : ArenaId) → a ≢ b → passed_of (dropped a cs) b ≡ passed_of cs b
passed_of-dropped [] a b n = refl
passed_of-dropped (c ∷ cs) a b n =
    let P : Bool → Type 0 = λ t. same_id c.arena a ≡ t
    → passed_of (if t then cs else c ∷ dropped a cs) b ≡ (if same_id c.arena b then Some c.passed else passed_of cs b) in
    let go : (t : Bool) → P t = λ t. elim t as P [
      | true ↦ (λ e.
          let f : same_id c.arena b ≡ false = ap (λ i. same_id i b) (same_id-true c.arena a e) ∙ same_id-not a b n in
          sym (ap (λ t. if t then Some c.passed else passed_of cs b) f))
      | false ↦ (λ e. ap (λ x. if same_id c.arena b then Some c.passed else x) (passed_of-dropped cs a b n))
    ] in
    go (same_id c.arena a) refl

of_shut : (a b : ArenaId) (result : Result Shutting Refusal) (cs : List Close) → a ≢ b → passed_of (closes_shut a result cs) b ≡ passed_of cs b
of_shut a b (Ok s) cs n = ap (λ t. if t then Some 0 else passed_of cs b) (same_id-not a b n)
of_shut a b (Err r) cs n = refl

of_visit : (a b : ArenaId) (v : Visit) (cs : List Close) → a ≢ b → passed_of (closes_visited a v cs) b ≡ passed_of cs b
of_visit a b Next cs n = passed_of-other cs a b n
of_visit a b (Inside k) cs n = refl
of_visit a b Ended cs n = passed_of-dropped cs a b n

-- ---- the laws

-- Where a close stands is by the pass's list of closes.
stands_by : {p q : View} {own : List Entry} {s : Shutting} → Goes p q own → passed_of q.closes s.arena ≡ passed_of p.closes s.arena
    → IsUnderWay p s → IsUnderWay q s
stands_by {s = s} g same u = record {
  maker = u.maker ∙ sym (made_on g);
  unfinished = u.unfinished;
  known = known_on g s.arena u.known;
  at = same ∙ u.at;
  low = rw g.same_shape u.low;
}

stands : CloseStands
stands old new own s g rest u = stands_by g (ap (λ (x : Rest). passed_of x.closes s.arena) rest) u

beside : StandsBeside IsUnderWay
beside = record {
  at_shut = λ pool old new other result s h n u.
      stands_by h.did.goes (ap (λ (x : Rest). passed_of x.closes s.arena) h.did.rest ∙ of_shut other s.arena result old.closes n) u;
  at_visit = λ pool old new t v result s h n u.
      stands_by h.did.goes (ap (λ (x : Rest). passed_of x.closes s.arena) h.did.rest ∙ of_visit t.arena s.arena result old.closes n) u;
  at_sweep = λ pool old new other s h n u. stands_by h.did.goes (ap (λ (x : Rest). passed_of x.closes s.arena) h.did.rest) u;
  onward = λ pool old new s h u. record {
    maker = u.maker ∙ (λ j. record { home = sym h.home j; caller = sym h.caller j });
    unfinished = u.unfinished;
    known = h.lasts.known s.arena u.known;
    at = ap (λ (cs : List Close). passed_of cs s.arena) h.closes ∙ u.at;
    low = rw h.shape u.low;
  };
}

-- Whether an arena is to be swept is by the pass's sweeps.
swept_by : {p q : View} {s : Shutting} → made_by_pass p ≡ made_by_pass q → passed_of q.sweeps s.arena ≡ passed_of p.sweeps s.arena
    → IsToSweep p s → IsToSweep q s
swept_by maker same u = record { maker = u.maker ∙ maker; ended = u.ended; at = same ∙ u.at }

ended : SweepStands
ended old new own s g rest u = swept_by (sym (made_on g)) (ap (λ (x : Rest). passed_of x.sweeps s.arena) rest) u

of_end : (a b : ArenaId) (v : Visit) (cs : List Sweep) → a ≢ b → passed_of (sweeps_visited a v cs) b ≡ passed_of cs b
of_end a b Next cs n = refl
of_end a b (Inside k) cs n = refl
of_end a b Ended cs n = ap (λ t. if t then Some 0 else passed_of cs b) (same_id-not a b n)

ended_beside : StandsBeside IsToSweep
ended_beside = record {
  at_shut = λ pool old new other result s h n u. swept_by (sym (made_on h.did.goes)) (ap (λ (x : Rest). passed_of x.sweeps s.arena) h.did.rest) u;
  at_visit = λ pool old new t v result s h n u.
      swept_by (sym (made_on h.did.goes)) (ap (λ (x : Rest). passed_of x.sweeps s.arena) h.did.rest ∙ of_end t.arena s.arena result old.sweeps n) u;
  at_sweep = λ pool old new other s h n u.
      swept_by (sym (made_on h.did.goes)) (ap (λ (x : Rest). passed_of x.sweeps s.arena) h.did.rest ∙ passed_of-dropped old.sweeps other s.arena n) u;
  onward = λ pool old new s h u.
      swept_by (λ j. record { home = sym h.home j; caller = sym h.caller j }) (ap (λ (cs : List Sweep). passed_of cs s.arena) h.sweeps) u;
}

-- ---- through holds, handles and openings

-- What stands where the pass has what it had, but for its holds and handles.
StandsBut : (View → Shutting → Type 0) → Type 0
StandsBut P =
    (p q : View) (own : List Entry) (holds handles : List ArenaId) (s : Shutting) → Goes p q own
    → rest_of q ≡ record (rest_of p) { holds = holds; handles = handles } → P p s → P q s

through_by : (P : View → Shutting → Type 0) → StandsBut P → StandsThrough P
unfolding StandsBut
through_by P but = record {
  at_hold = λ pool p q id result s o a. but p q _ _ _ s a.did.goes a.did.rest;
  at_unhold = λ pool p q id s o a. but p q _ _ _ s a.did.goes a.did.rest;
  at_open = λ pool p q kind result s o a. but p q _ _ _ s a.did.goes a.did.rest;
  at_again = λ pool p q id result s o a. but p q _ _ _ s a.did.goes a.did.rest;
  at_give_back = λ pool p q id result s o a. but p q _ _ _ s a.did.goes a.did.rest;
}

pub lasts : CloseLasts
unfolding StandsBut
lasts = record {
  stands = stands;
  beside = beside;
  through = through_by IsUnderWay (λ p q own holds handles s g rest u. stands_by g (ap (λ (x : Rest). passed_of x.closes s.arena) rest) u);
  ended = ended;
  ended_beside = ended_beside;
  ended_through = through_by IsToSweep (λ p q own holds handles s g rest u.
      swept_by (sym (made_on g)) (ap (λ (x : Rest). passed_of x.sweeps s.arena) rest) u);
}
