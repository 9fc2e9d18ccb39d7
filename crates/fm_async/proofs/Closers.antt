-- A pass's own entries end with those of its close.
use Rattle.std.proofs.Common.{◌≡◌, Bool, true, false, List, [], ◌++◌, ap, sym, ◌∙◌, subst, append_assoc}
use Rattle.std.proofs.lemmas.List.{append-nil, Elements.{filter-append}}
use Rattle.std.specs.Prelude.{Ok}
use Rattle.fm_base.specs.{declared.{caller.Caller.{Caller}, arena_id.ArenaId.{ArenaId}}, Calls.{Entry}, Histories.{made_by}}
use Rattle.fm_rule_facts.specs.Views.{View}
use Rattle.fm_rule.specs.declared.pool.Pool.{Pool}
use Rattle.fm_rule_calls.specs.Kept.{Goes}
use Rattle.fm_close.specs.{declared.{shutting.Shutting.{Shutting}, outcome.Visit.{Visit}}, CloseLaws.{StandsBy}, Learnt.{AfterShut, AfterVisit, CanWalk}}
use Rattle.fm_async.specs.{Visits.{entries_by, Visited}, Closers.{entries_of_close, IsClosing}}
use Rattle.fm_async.proofs.Visits.{visited_once}

-- A pass's own entries grow by those of the call.
pub mine_then : {p q : View} {own : List Entry} → Goes p q own → made_by q.caller q.seen ≡ made_by p.caller p.seen ++ own
mine_then {p = p} {q = q} {own = own} g =
    ap (λ c. made_by c q.seen) g.same_caller ∙ (ap (made_by p.caller) g.seen
    ∙ (filter-append _ p.seen g.more ∙ ap (λ (es : List Entry). made_by p.caller p.seen ++ es) g.by_pass))

-- After its shut they end with the Shut.
pub begun_closing : {pool : Pool} {p q : View} {id : ArenaId} {s : Shutting} → AfterShut pool p q id (Ok s) → IsClosing pool q s
begun_closing {p = p} {q = q} {id = id} {s = s} a =
    let does = a.did.does in
    let unended : s.ended ≡ false = ap (λ (x : Shutting). x.ended) does.2 in
    let arena : s.arena ≡ id = ap (λ (x : Shutting). x.arena) does.2 in
    record {
      outside = a.outside;
      stands = subst (λ b. StandsBy b q s) (sym unended) a.walks;
      before = made_by p.caller p.seen;
      mine = mine_then a.did.goes ∙ (ap (λ (es : List Entry). made_by p.caller p.seen ++ es) does.3
          ∙ (λ j. made_by p.caller p.seen ++ entries_of_close (sym unended j) (sym a.did.goes.same_caller j) (sym arena j)));
    }

-- The entries of a close that hadn't ended, and those of visits, are those of the close then.
ends_with : (b c : Bool) (k l : Caller) (a i : ArenaId) (before : List Entry) → b ≡ false → l ≡ k → i ≡ a
    → (before ++ entries_of_close b k a) ++ entries_by c k a ≡ before ++ entries_of_close c l i
ends_with b true k l a i before e f g =
    ap (λ x. (before ++ entries_of_close x k a) ++ entries_by true k a) e
    ∙ (append_assoc before (entries_of_close false k a) (entries_by true k a) ∙ (λ j. before ++ entries_of_close true (sym f j) (sym g j)))
ends_with b false k l a i before e f g =
    ap (λ x. (before ++ entries_of_close x k a) ++ []) e
    ∙ (append-nil (before ++ entries_of_close false k a) ∙ (λ j. before ++ entries_of_close false (sym f j) (sym g j)))

-- Visits leave it so, with the End where the arena has ended.
pub visited_closing : {pool : Pool} {p q : View} {s t : Shutting} → IsClosing pool p s → s.ended ≡ false → Visited pool p q s t → IsClosing pool q t
visited_closing {p = p} {q = q} {s = s} {t = t} c e v = record {
  outside = v.outside;
  stands = v.stands;
  before = c.before;
  mine = mine_then v.goes ∙ (ap (λ (es : List Entry). es ++ entries_by t.ended p.caller s.arena) c.mine
      ∙ ends_with s.ended t.ended p.caller q.caller s.arena t.arena c.before e v.goes.same_caller v.arena);
}

-- Where the close hasn't ended, its next mark is to be visited.
pub can_walk : {pool : Pool} {p : View} {s : Shutting} → IsClosing pool p s → s.ended ≡ false → CanWalk pool p s
can_walk {p = p} {s = s} c e = record { outside = c.outside; walks = subst (λ b. StandsBy b p s) e c.stands }

-- So does one visit.
pub stepped_closing : {pool : Pool} {p q : View} {s t : Shutting} (v : Visit) → IsClosing pool p s → s.ended ≡ false → AfterVisit pool p q s t v
    → IsClosing pool q t
stepped_closing v c e a = visited_closing c e (visited_once v (can_walk c e) a)
