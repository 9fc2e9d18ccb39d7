-- Visits put together.
use Rattle.std.proofs.Common.{◌≡◌, ℕ, ◌+◌, ◌<◌, ◌≤◌, Bool, true, false, List, [], ◌∷◌, ◌++◌, length, Option, Some, None}
use Rattle.std.proofs.Common.{refl, ap, sym, ◌∙◌, subst, arith, append_assoc, le_trans}
use Rattle.std.proofs.lemmas.{Bool.{eqb-true}, List.{length-append, append-nil}}
use Rattle.fm_base.specs.{declared.{caller.Caller.{Caller}, arena_id.ArenaId.{ArenaId}}, Finds.{Close, Sweep, Rest, Visits}}
use Rattle.fm_rule_facts.specs.{Views.{View}, Closes.{advanced, dropped}, Words.{mark_of}}
use Rattle.fm_rule.specs.declared.pool.Pool.{Pool}
use Rattle.fm_rule_calls.{specs.Kept.{Goes, HasEnded, rest_of}, proofs.Going.{goes_then}}
use Rattle.fm_gate.specs.Needs.{IsOutside}
use Rattle.fm_close.specs.{declared.{shutting.Shutting.{Shutting}, outcome.Visit.{Visit, TheVariants.{Next, Inside, Ended}}}, Does.{visit_answer}}
use Rattle.fm_close.specs.Learnt.{CanWalk, AfterVisit}
use Rattle.fm_close.{specs.CloseLaws.{StandsBy}, proofs.Closes.{dropped-advanced}}
use Rattle.fm_async.specs.Visits.{entries_by, ClosesBy, sweeps_by, Visited, StopsBy, Advanced}

-- ---- one visit

-- Visits are of a close that stands so, whether its arena has ended or not.
visited_as : {pool : Pool} {p q : View} {s t : Shutting} (b : Bool) → t.ended ≡ b → Goes p q (entries_by b p.caller s.arena)
    → rest_of q ≡ record (rest_of p) { closes = q.closes; sweeps = sweeps_by b s.arena p.sweeps } → ClosesBy b s.arena p.closes q.closes
    → t.arena ≡ s.arena → StandsBy b q t → (b ≡ true → HasEnded q t.arena) → IsOutside pool q → Visited pool p q s t
visited_as {p = p} {q = q} {s = s} {t = t} b e goes rest closes arena stands over outside = record {
  goes = subst (λ x. Goes p q (entries_by x p.caller s.arena)) (sym e) goes;
  rest = rest ∙ (λ j. record (rest_of p) { closes = q.closes; sweeps = sweeps_by (sym e j) s.arena p.sweeps });
  closes = subst (λ x. ClosesBy x s.arena p.closes q.closes) (sym e) closes;
  arena = arena;
  stands = subst (λ x. StandsBy x q t) (sym e) stands;
  over = λ f. subst (HasEnded q) arena (over (sym e ∙ f));
  outside = outside;
}

-- What a pass has but for its closes.
rest_but : (p q : View) (cs : List Close) (ws : List Sweep) → rest_of q ≡ record (rest_of p) { closes = cs; sweeps = ws }
    → rest_of q ≡ record (rest_of p) { closes = q.closes; sweeps = ws }
rest_but p q cs ws e = e ∙ (λ j. record (rest_of p) { closes = (sym e j).closes; sweeps = ws })

-- One visit.
pub visited_once : {pool : Pool} {p q : View} {s t : Shutting} (v : Visit) → CanWalk pool p s → AfterVisit pool p q s t v → Visited pool p q s t
visited_once {p = p} {q = q} {s = s} Next can a =
    let closes : q.closes ≡ advanced s.arena p.closes = ap (λ (x : Rest). x.closes) a.did.rest in
    visited_as false (ap (λ (x : Shutting). x.ended) a.close ∙ can.walks.unfinished) (subst (λ es. Goes p q es) a.did.does a.did.goes)
    (rest_but p q _ _ a.did.rest) (ap (dropped s.arena) closes ∙ dropped-advanced p.closes s.arena) (ap (λ (x : Shutting). x.arena) a.close)
    a.stands (λ e. absurd (cc)) a.outside
visited_once {p = p} {q = q} {s = s} (Inside k) can a =
    let closes : q.closes ≡ p.closes = ap (λ (x : Rest). x.closes) a.did.rest in
    visited_as false (ap (λ (x : Shutting). x.ended) a.close ∙ can.walks.unfinished) (subst (λ es. Goes p q es) a.did.does a.did.goes)
    (rest_but p q _ _ a.did.rest) (ap (dropped s.arena) closes) (ap (λ (x : Shutting). x.arena) a.close)
    a.stands.0 (λ e. absurd (cc)) a.outside
visited_once {p = p} {q = q} {s = s} Ended can a =
    visited_as true (ap (λ (x : Shutting). x.ended) a.close) (subst (λ es. Goes p q es) a.did.does a.did.goes)
    (rest_but p q _ _ a.did.rest) (ap (λ (x : Rest). x.closes) a.did.rest) (ap (λ (x : Shutting). x.arena) a.close)
    a.stands.1 (λ e. a.stands.0) a.outside

-- ---- visits behind visits

-- What is dropped at the end of some visits and more is what is dropped at the end of the last.
closes_then : (p q r : View) (b : Bool) (a : ArenaId) → dropped a q.closes ≡ dropped a p.closes → ClosesBy b a q.closes r.closes
    → ClosesBy b a p.closes r.closes
closes_then p q r true a e c = c ∙ e
closes_then p q r false a e c = c ∙ e

-- Visits and more of them are visits, where the close hadn't ended between.
pub visited_then : {pool : Pool} {p q r : View} {s t u : Shutting} → Visited pool p q s t → t.ended ≡ false → Visited pool q r t u → Visited pool p r s u
visited_then {p = p} {q = q} {r = r} {s = s} {t = t} {u = u} v e w =
    let first : Goes p q [] = subst (λ x. Goes p q (entries_by x p.caller s.arena)) e v.goes in
    let drops : dropped s.arena q.closes ≡ dropped s.arena p.closes = subst (λ x. ClosesBy x s.arena p.closes q.closes) e v.closes in
    let same : q.sweeps ≡ p.sweeps = ap (λ (x : Rest). x.sweeps) v.rest ∙ (λ j. sweeps_by (e j) s.arena p.sweeps) in
    let sweeps : sweeps_by u.ended t.arena q.sweeps ≡ sweeps_by u.ended s.arena p.sweeps = λ j. sweeps_by u.ended (v.arena j) (same j) in
    record {
      goes = goes_then first (subst (λ (x : Caller × ArenaId). Goes q r (entries_by u.ended x.0 x.1)) (λ j. (first.same_caller j, v.arena j)) w.goes);
      rest = w.rest ∙ (ap (λ (x : Rest). record x { closes = r.closes; sweeps = sweeps_by u.ended t.arena q.sweeps }) v.rest
          ∙ (λ j. record (rest_of p) { closes = r.closes; sweeps = sweeps j }));
      closes = closes_then p q r u.ended s.arena drops (subst (λ a. ClosesBy u.ended a q.closes r.closes) v.arena w.closes);
      arena = w.arena ∙ v.arena;
      stands = w.stands;
      over = λ f. subst (HasEnded r) v.arena (w.over f);
      outside = w.outside;
    }

-- ---- visits up to a mark of the arena, or to its end

-- A visit that answers Inside found a mark of the arena, and answers the number that it looked at.
inside_by : (n k : ℕ) (b l : Bool) → Inside k ≡ visit_answer n b l → (b ≡ true) × (k ≡ n)
inside_by n k true l e = (refl, cc)
inside_by n k false true e = absurd (cc)
inside_by n k false false e = absurd (cc)

-- One find more is none and then one.
one_find : {A : Type 0} (xs : List A) (x : A) → xs ++ x ∷ [] ≡ (xs ++ []) ++ x ∷ []
one_find xs x = ap (λ ys. ys ++ x ∷ []) (sym (append-nil xs))

-- It is one more to count.
counted : {A : Type 0} (xs ys : List A) (x : A) → ys ≡ xs ++ x ∷ [] → length ys ≡ length xs + 1
counted xs ys x e = ap length e ∙ length-append xs (x ∷ [])

-- One visit is no more than marks were left.
few_once : (n m next passes : ℕ) → m ≡ n + 1 → next < passes → m + next ≤ n + passes
few_once n m next passes e l = omega arith

-- A visit that found a mark of the arena is the last of its poll.
pub advanced_inside : {pool : Pool} {p q : View} {s t : Shutting} (k : ℕ) → CanWalk pool p s → AfterVisit pool p q s t (Inside k)
    → Advanced pool p q s t (Some k)
advanced_inside {p = p} {q = q} {s = s} {t = t} k can a =
    let by = inside_by s.next k _ _ a.answer in
    record {
      visited = visited_once (Inside k) can a;
      stops = (
        ap (λ (x : Shutting). x.ended) a.close ∙ can.walks.unfinished,
        record {
          more = [];
          find = a.looked.find;
          grown = a.looked.grown ∙ one_find p.finds a.looked.find;
          step = a.looked.step ∙ (λ j. Visits (sym a.close j).arena (sym by.1 j));
          names = eqb-true _ _ by.0 ∙ ap (λ (x : Shutting). mark_of x.arena) (sym a.close);
          next = by.1 ∙ ap (λ (x : Shutting). x.next) (sym a.close);
          other = a.stands.1;
        },
      );
      few = few_once _ _ _ _ (counted p.finds q.finds a.looked.find a.looked.grown) can.walks.low;
      lasts = a.lasts;
    }

-- So is the one by which the arena has ended.
pub advanced_end : {pool : Pool} {p q : View} {s t : Shutting} → CanWalk pool p s → AfterVisit pool p q s t Ended → Advanced pool p q s t None
advanced_end {p = p} {q = q} {s = s} {t = t} can a = record {
  visited = visited_once Ended can a;
  stops = ap (λ (x : Shutting). x.ended) a.close;
  few = few_once _ _ _ _ (counted p.finds q.finds a.looked.find a.looked.grown) can.walks.low;
  lasts = a.lasts;
}

-- A find, and those behind it, up to the last.
more_finds : {A : Type 0} (xs ys zs more : List A) (x y : A) → ys ≡ xs ++ x ∷ [] → zs ≡ (ys ++ more) ++ y ∷ [] → zs ≡ (xs ++ (x ∷ more)) ++ y ∷ []
more_finds xs ys zs more x y e f = f ∙ ap (λ ws. ws ++ y ∷ []) (ap (λ ws. ws ++ more) e ∙ append_assoc xs (x ∷ []) more)

-- What stops the visits behind one stops them from the one.
stops_then : {pool : Pool} {p q : View} {s t : Shutting} (r : View) (u : Shutting) (b : Option ℕ) → AfterVisit pool p q s t Next → StopsBy q r u b
    → StopsBy p r u b
stops_then r u None a w = w
stops_then {p = p} {q = q} r u (Some k) a w = (
  w.0,
  record {
    more = a.looked.find ∷ w.1.more;
    find = w.1.find;
    grown = more_finds p.finds q.finds r.finds w.1.more a.looked.find w.1.find a.looked.grown w.1.grown;
    step = w.1.step;
    names = w.1.names;
    next = w.1.next;
    other = w.1.other;
  },
)

-- One visit and so many as marks are left then.
few_then : (n m l next passes : ℕ) → m ≡ n + 1 → l + (next + 1) ≤ m + passes → l + next ≤ n + passes
few_then n m l next passes e h = omega arith

-- A visit that found another mark or none, and the visits behind it.
pub next_then : {pool : Pool} {p q r : View} {s t u : Shutting} (b : Option ℕ) → CanWalk pool p s → AfterVisit pool p q s t Next
    → Advanced pool q r t u b → Advanced pool p r s u b
next_then {p = p} {q = q} {r = r} {s = s} {t = t} {u = u} b can a w =
    let few : length r.finds + (s.next + 1) ≤ length q.finds + p.shape.passes =
    rw (sym (ap (λ (x : Shutting). x.next) a.close), sym (ap (λ z. z.passes) a.did.goes.same_shape)) w.few in
    record {
      visited = visited_then (visited_once Next can a) (ap (λ (x : Shutting). x.ended) a.close ∙ can.walks.unfinished) w.visited;
      stops = stops_then r u b a w.stops;
      few = few_then _ _ _ _ _ (counted p.finds q.finds a.looked.find a.looked.grown) few;
      lasts = record {
        given = λ id. le_trans (a.lasts.given id) (w.lasts.given id);
        known = λ id k. w.lasts.known id (a.lasts.known id k);
        ended = λ id e. w.lasts.ended id (a.lasts.ended id e);
        no_words = λ id e n. w.lasts.no_words id (a.lasts.ended id e) (a.lasts.no_words id e n);
      };
    }

-- The visits have come from o to p, and the close from b to s: whatever stops them from there stops them from o
pub record Advancing (pool : Pool) (o p : View) (b s : Shutting) : Type 0 where
  pub can : CanWalk pool p s
  pub onward : (q : View) (t : Shutting) (r : Option ℕ) → Advanced pool p q s t r → Advanced pool o q b t r

-- They go on by a visit that found no mark of the arena.
pub advancing_on : {pool : Pool} {o p q : View} {b s t : Shutting} → Advancing pool o p b s → AfterVisit pool p q s t Next → Advancing pool o q b t
advancing_on w a = record {
  can = record { outside = a.outside; walks = a.stands };
  onward = λ r u x end. w.onward r u x (next_then x w.can a end);
}
