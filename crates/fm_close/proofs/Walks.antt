-- The walk over the marks, and a close.
use Rattle.std.{proofs.{Common.{◌≡◌, ◌≢◌, List, [], ◌∷◌, refl, sym, ap, ◌∙◌, subst}, lemmas.List.Elements.{All-head, All-tail}}, specs.Prelude.{Ok}}
use Rattle.fm_base.specs.{declared.{caller.Caller.{Caller}, arena_id.ArenaId.{ArenaId}}, Calls.{Shut, End, Fine, Entry, entry_of}, Finds.{Close, Rest}}
use Rattle.fm_base.specs.View.{but_loans}
use Rattle.fm_rule_facts.specs.{Views.{View}, Closes.{walk_of, advanced, dropped}}
use Rattle.fm_rule.specs.declared.pool.Pool.{Pool}
use Rattle.fm_rule_calls.{specs.Kept.{Goes, rest_of, HasEnded, HasNoWords}, proofs.Going.{goes_then, lasts_on}}
use Rattle.fm_gate.specs.Needs.{IsOutside}
use Rattle.fm_close.specs.{declared.{shutting.Shutting.{Shutting}, outcome.Visit.{Visit, TheVariants.{Next, Inside, Ended}}}, Does.{IsBack, AreBacks}}
use Rattle.fm_close.{specs.Learnt.{CanWalk, AfterShut, AfterVisit, Walked, AfterSweep, AfterClose}, proofs.Closes.{dropped-advanced, dropped-begun}}

-- ---- the walk

-- One visit more at the head of a walk.
more : {pool : Pool} {p q r : View} {s t u : Shutting} (cs : List Close) → Goes p q [] → rest_of q ≡ record (rest_of p) { closes = cs }
    → dropped s.arena cs ≡ dropped s.arena p.closes → t.arena ≡ s.arena → Walked pool q r t u → Walked pool p r s u
more {p = p} {q = q} {r = r} {s = s} {t = t} cs g rest drops arena w =
    let closes : q.closes ≡ cs = ap (λ (x : Rest). x.closes) rest in
    let end : Goes q r (entry_of p.caller (End s.arena) Fine ∷ []) = subst
    (λ (a : ArenaId). Goes q r (entry_of p.caller (End a) Fine ∷ [])) arena (subst
    (λ (c : Caller). Goes q r (entry_of c (End t.arena) Fine ∷ [])) g.same_caller w.goes) in
    let left : dropped t.arena q.closes ≡ dropped s.arena p.closes = ap (λ (a : ArenaId). dropped a q.closes) arena ∙ (ap (dropped s.arena) closes ∙ drops) in
    let begun : walk_of t.arena 0 ∷ q.sweeps ≡ walk_of s.arena 0 ∷ p.sweeps = λ j. walk_of (arena j) 0 ∷ (rest j).sweeps in
    record {
      goes = goes_then g end;
      rest = w.rest ∙ (ap (λ (x : Rest). record x { closes = dropped t.arena q.closes; sweeps = walk_of t.arena 0 ∷ q.sweeps }) rest
          ∙ (λ j. record (rest_of p) { closes = left j; sweeps = begun j }));
      arena = w.arena ∙ arena;
      ends = w.ends;
      over = subst (λ (a : ArenaId). HasEnded r a) arena w.over;
    }

-- A visit that isn't the last, and a walk.
pub visit_then : {pool : Pool} {p q r : View} {s t u : Shutting} (v : Visit) → AfterVisit pool p q s t v → v ≢ Ended → Walked pool q r t u → Walked pool p r s u
visit_then {p = p} {q = q} {s = s} Next a goes_on w =
    more (advanced s.arena p.closes) (subst (λ (es : List Entry). Goes p q es) a.did.does a.did.goes) a.did.rest
    (dropped-advanced p.closes s.arena) (ap (λ (x : Shutting). x.arena) a.close) w
visit_then {p = p} {q = q} (Inside k) a goes_on w =
    more p.closes (subst (λ (es : List Entry). Goes p q es) a.did.does a.did.goes) a.did.rest refl (ap (λ (x : Shutting). x.arena) a.close) w
visit_then Ended a goes_on w = absurd (goes_on refl)

-- The last visit is a walk.
pub visit_last : {pool : Pool} {p r : View} {s u : Shutting} → AfterVisit pool p r s u Ended → Walked pool p r s u
visit_last {p = p} {r = r} a =
    let arena = ap (λ (x : Shutting). x.arena) a.close in
    record {
      goes = subst (λ (es : List Entry). Goes p r es) a.did.does a.did.goes;
      rest = a.did.rest;
      arena = arena;
      ends = record { outside = a.outside; sweep = a.stands.1 };
      over = subst (λ (i : ArenaId). HasEnded r i) arena a.stands.0;
    }

-- The walk has come from p to q, and its close from s to t: whatever ends it from there ends it from p
pub record Walking (pool : Pool) (p q : View) (s t : Shutting) : Type 0 where
  pub can : CanWalk pool q t
  pub onward : (r : View) (u : Shutting) → Walked pool q r t u → Walked pool p r s u

-- It begins where it is.
pub walk_starts : {pool : Pool} {p : View} {s : Shutting} → CanWalk pool p s → Walking pool p p s s
walk_starts can = record { can = can; onward = λ r u w. w }

walks_on : {pool : Pool} {p q : View} {s t : Shutting} (v : Visit) → AfterVisit pool p q s t v → v ≢ Ended → CanWalk pool q t
walks_on Next a goes_on = record { outside = a.outside; walks = a.stands }
walks_on (Inside k) a goes_on = record { outside = a.outside; walks = a.stands.0 }
walks_on Ended a goes_on = absurd (goes_on refl)

-- It goes on by a visit that isn't the last.
pub walk_goes_on : {pool : Pool} {o p q : View} {b s t : Shutting} (v : Visit) → Walking pool o p b s → AfterVisit pool p q s t v → v ≢ Ended
    → Walking pool o q b t
walk_goes_on v w a goes_on = record { can = walks_on v a goes_on; onward = λ r u end. w.onward r u (visit_then v a goes_on end) }

-- ---- the close

-- Pages that are taken back are no matter to who sees no loans.
but_backs : (c : Caller) (es : List Entry) → AreBacks c es → but_loans es ≡ []
but_backs c [] backs = refl
but_backs c (e ∷ es) backs =
    ap (λ (x : Entry). but_loans (x ∷ es)) (All-head (IsBack c) e es backs).1 ∙ but_backs c es (All-tail (IsBack c) e es backs)

-- A close is its Shut and its End then.
pub ends_so : (c : Caller) (a : ArenaId) (by : Caller) (es : List Entry) → AreBacks by es
    → but_loans (entry_of c (Shut a) Fine ∷ entry_of c (End a) Fine ∷ es) ≡ entry_of c (Shut a) Fine ∷ entry_of c (End a) Fine ∷ []
ends_so c a by es backs = ap (λ (xs : List Entry). entry_of c (Shut a) Fine ∷ entry_of c (End a) Fine ∷ xs) (but_backs by es backs)

-- A walk and a sweep: all that the walk added to what the pass has is gone
pub record Finished (pool : Pool) (old new : View) (id : ArenaId) : Type 0 where
  pub backs : List Entry
  pub are : AreBacks old.caller backs
  pub goes : Goes old new (entry_of old.caller (End id) Fine ∷ backs)
  pub rest : rest_of new ≡ record (rest_of old) { closes = dropped id old.closes }
  pub over : HasEnded new id
  pub no_words : HasNoWords new id
  pub outside : IsOutside pool new

pub finished : {pool : Pool} {p q r : View} {s t : Shutting} (a : ArenaId) → s.arena ≡ a → Walked pool p q s t → AfterSweep pool q r t.arena
    → Finished pool p r a
finished {p = p} {q = q} {r = r} {s = s} {t = t} a is w z =
    let same : t.arena ≡ a = w.arena ∙ is in
    let d = z.did in
    let ends : Goes p q (entry_of p.caller (End a) Fine ∷ []) = subst (λ (i : ArenaId). Goes p q (entry_of p.caller (End i) Fine ∷ [])) is w.goes in
    let left : dropped t.arena q.sweeps ≡ p.sweeps =
    ap (dropped t.arena) (ap (λ (x : Rest). x.sweeps) w.rest ∙ (λ j. walk_of (sym w.arena j) 0 ∷ p.sweeps)) ∙ dropped-begun p.sweeps t.arena in
    record {
      backs = d.own;
      are = subst (λ (c : Caller). AreBacks c d.own) ends.same_caller d.does;
      goes = goes_then ends d.goes;
      rest = d.rest ∙ (ap (λ (x : Rest). record x { sweeps = dropped t.arena q.sweeps }) w.rest
          ∙ (λ j. record (rest_of p) { closes = dropped (is j) p.closes; sweeps = left j }));
      over = subst (HasEnded r) same z.ended;
      no_words = subst (HasNoWords r) same z.no_words;
      outside = z.outside;
    }

-- From the shut of the arena to the end of its sweep: its Shut and its End then, and the close is gone
module _ {pool : Pool} {p q r : View} {a i : ArenaId} (arena : i ≡ a) (shut : Goes p q (entry_of p.caller (Shut a) Fine ∷ []))
    (begun : q.closes ≡ walk_of a 0 ∷ p.closes) (w : Finished pool q r i) where
  pub closed_goes : Goes p r (entry_of p.caller (Shut a) Fine ∷ entry_of p.caller (End a) Fine ∷ w.backs)
  closed_goes = goes_then shut (subst (λ (x : Caller × ArenaId). Goes q r (entry_of x.0 (End x.1) Fine ∷ w.backs)) (λ j. (shut.same_caller j, arena j)) w.goes)

  pub closed_left : dropped i q.closes ≡ p.closes
  closed_left = ap (λ (x : ArenaId). dropped x q.closes) arena ∙ (ap (dropped a) begun ∙ dropped-begun p.closes a)

-- What is learnt where all marks were visited, and the arena was swept.
pub after_walk : {pool : Pool} {p q r : View} {a : ArenaId} {s : Shutting} (u : Unit {0}) → AfterShut pool p q a (Ok s) → Finished pool q r s.arena
    → AfterClose pool p r a (Ok u)
after_walk {p = p} {q = q} {r = r} {a = a} {s = s} u h w =
    let does = h.did.does in
    let arena : s.arena ≡ a = ap (λ (x : Shutting). x.arena) does.2 in
    let shut : Goes p q (entry_of p.caller (Shut a) Fine ∷ []) = subst (λ (es : List Entry). Goes p q es) does.3 h.did.goes in
    let begun : q.closes ≡ walk_of a 0 ∷ p.closes = ap (λ (x : Rest). x.closes) h.did.rest in
    let goes = closed_goes arena shut begun w in
    record {
      did = record {
        own = entry_of p.caller (Shut a) Fine ∷ entry_of p.caller (End a) Fine ∷ w.backs;
        does = (does.0, does.1, ends_so p.caller a q.caller w.backs w.are);
        goes = goes;
        rest = w.rest ∙ (ap (λ (x : Rest). record x { closes = dropped s.arena q.closes }) h.did.rest
            ∙ ap (λ (xs : List Close). record (rest_of p) { closes = xs }) (closed_left arena shut begun w));
      };
      ended = subst (HasEnded r) arena w.over;
      no_words = subst (HasNoWords r) arena w.no_words;
      outside = w.outside;
      as_was = record { wrong_thread = λ e. absurd (cc); cannot_close = λ k e. absurd (cc) };
      lasts = lasts_on goes;
    }
