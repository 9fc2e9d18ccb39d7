-- A close that is polled while its pass is borrowed, and its end.
use Rattle.std.proofs.Common.{◌≡◌, Bool, true, false, refl, sym, ◌∙◌, subst, Option, Some, None}
use Rattle.std.specs.Prelude.{IfSome, Ok}
use Rattle.fm_base.specs.declared.arena_id.ArenaId.{ArenaId}
use Rattle.fm_rule_facts.specs.{Views.{View, IsSound}, Closes.{dropped}}
use Rattle.fm_rule.specs.declared.pool.Pool.{Pool}
use Rattle.fm_rule_calls.{specs.Kept.{Goes, rest_of}, proofs.Going.{goes_none}}
use Rattle.fm_close.specs.declared.{shutting.Shutting.{Shutting}, outcome.Visit.{Visit}}
use Rattle.fm_close.specs.Learnt.{AfterShut, AfterVisit, AfterSweep, AfterClose, CanWalk, Walked}
use Rattle.fm_close.proofs.Walks.{finished, after_walk}
use Rattle.fm_close.specs.CloseLaws.{StandsBy}
use Rattle.fm_async.specs.{Closers.{IsClosing}, Ends.{Ends, VisitedAll}, Borrows.{BorrowView, Comes, HasCome}}
use Rattle.fm_async.specs.Visits.{entries_by, ClosesBy, sweeps_by, Visited}
use Rattle.fm_async.proofs.{Closers.{can_walk, stepped_closing, visited_closing}, Visits.{visited_once, visited_then}}

-- ---- while its pass is borrowed

-- Whatever it has come from, it comes further by visits.
comes_on : (start : Option BorrowView) (c d : BorrowView) → d.pool ≡ c.pool → d.name ≡ c.name → c.shutting.ended ≡ false
    → Visited c.pool c.pass d.pass c.shutting d.shutting → IfSome start (λ old. Comes old c) → IfSome start (λ old. Comes old d)
comes_on None c d pool name e v came = came
comes_on (Some old) c d pool name e v came = record {
  pool = pool ∙ came.pool;
  name = name ∙ came.name;
  visited = visited_then came.visited e (subst (λ (x : Pool). Visited x c.pass d.pass c.shutting d.shutting) came.pool v);
}

-- So it stands then.
pub come_on : (start : Option BorrowView) (c d : BorrowView) → d.pool ≡ c.pool → d.name ≡ c.name → c.shutting.ended ≡ false
    → Visited c.pool c.pass d.pass c.shutting d.shutting → HasCome start c → HasCome start d
come_on start c d pool name e v l = record {
  is = subst (λ (x : Pool). IsClosing x d.pass d.shutting) (sym pool) (visited_closing l.is e v);
  came = comes_on start c d pool name e v l.came;
}

-- Where the start is known, it has come from there.
pub came_from : (start : Option BorrowView) (old c : BorrowView) → start ≡ Some old → HasCome start c → Comes old c
came_from start old c e l = subst (λ (o : Option BorrowView). IfSome o (λ x. Comes x c)) e l.came

-- ---- its end

-- Visits by which the arena has ended are the walk of the marks that were left.
walked_by : {pool : Pool} {p q : View} {s t : Shutting} → t.ended ≡ true → Visited pool p q s t → Walked pool p q s t
walked_by {p = p} {q = q} {s = s} {t = t} e v =
    let closes : q.closes ≡ dropped s.arena p.closes = subst (λ b. ClosesBy b s.arena p.closes q.closes) e v.closes in
    record {
      goes = subst (λ b. Goes p q (entries_by b p.caller s.arena)) e v.goes;
      rest = v.rest ∙ (λ j. record (rest_of p) { closes = closes j; sweeps = sweeps_by (e j) s.arena p.sweeps });
      arena = v.arena;
      ends = record { outside = v.outside; sweep = subst (λ b. StandsBy b q t) e v.stands };
      over = v.over e;
    }

-- Visits, and all that were left then.
all_by : {pool : Pool} {p q r : View} {s t u : Shutting} (b : Bool) → t.ended ≡ b → Visited pool p q s t → VisitedAll pool q r t u → Visited pool p r s u
all_by {pool = pool} {p = p} {q = q} {r = r} {s = s} {t = t} {u = u} true e v a =
    let same = a.none e in
    subst (λ (x : View × Shutting). Visited pool p x.0 s x.1) (λ j. (sym same.0 j, sym same.1 j)) v
all_by false e v a = visited_then v e (a.visited e)

-- The close was polled, all marks that were left were visited, and the arena was swept.
pub ends_by : {pool : Pool} {p q r z : View} {s t u : Shutting} → Visited pool p q s t → VisitedAll pool q r t u → AfterSweep pool r z u.arena
    → Ends pool p z s
ends_by {r = r} {t = t} {u = u} v a w = record { middle = r; last = u; walked = walked_by a.ended (all_by t.ended refl v a); swept = w }

-- With its shut before, that is what is learnt of a close.
pub closed_by : {pool : Pool} {p q r : View} {a : ArenaId} {s : Shutting} → AfterShut pool p q a (Ok s) → Ends pool q r s → AfterClose pool p r a (Ok tt)
closed_by h e = after_walk tt h (finished _ refl e.walked e.swept)

-- Visits have come from p to q, and the close from s to t: whatever visits the rest from there visits all from p
pub record VisitsAll (pool : Pool) (p q : View) (s t : Shutting) : Type 0 where
  pub is : IsClosing pool q t
  pub onward : (r : View) (u : Shutting) → VisitedAll pool q r t u → VisitedAll pool p r s u

-- They go on by one visit.
pub all_on : {pool : Pool} {o p q : View} {b s t : Shutting} (v : Visit) → VisitsAll pool o p b s → s.ended ≡ false → AfterVisit pool p q s t v
    → VisitsAll pool o q b t
all_on {t = t} v w e a =
    let first = visited_once v (can_walk w.is e) a in
    record {
      is = stepped_closing v w.is e a;
      onward = λ r u end. w.onward r u (record {
        ended = end.ended;
        visited = λ f. all_by t.ended refl first end;
        none = λ f. absurd (cc);
      });
    }
