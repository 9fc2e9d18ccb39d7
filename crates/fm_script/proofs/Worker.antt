-- A pass that has played a worker's lines went on as a memory does.
use Rattle.std.{proofs.Common.{◌≡◌, List, [], ◌++◌, All, None, Ok, Err, Result, refl, sym, ap, ◌∙◌, subst, map}, specs.Prelude.{OnOk, Vec}}
use Rattle.std.specs.declared.alloc.Global.{Global}
use Rattle.fm_base.specs.View.{Did, IsSound}
use Rattle.fm_rule_facts.specs.Views.{View}
use Rattle.fm_rule_calls.specs.Told.{view_of_pass}
use Rattle.fm_script_lines.specs.{declared.{bound.Bound.{Bound}, reply.Reply.{Reply}, standing.Standing.{Standing}}, Playing.{LinesRan}, Report.{runs}}
use Rattle.fm_script_lines.{specs.{Runs.{Went, WentOn}, Standings.{IsSpent, lent, standing_as}}, proofs.AdmittedEnds.{worker_spent}}
use Rattle.fm_script_lines.proofs.{Going.{went_none, went_then}, Settled.{settled}}
use Rattle.fm_script.specs.{declared.player.Player.{Player}, Players.{CanPlay, PlayedAs, Playing, Plays, PlaysLines, lines_for}}

pub did : {E : Type 0} (w : Playing) (p q : View) (old now new : Player) (result : Result (Unit {0}) E) → PlayedAs w p q old now result
    → IsSound (view_of_pass q) → new.number ≡ now.number → new.start ≡ now.start → new.caller ≡ q.caller → new.replies ≡ now.replies → new.lent ≡ now.lent
    → (new.cut ≡ None → result ≡ Ok tt) → Did (view_of_pass p) (view_of_pass q) (Plays w q old new)
did {E = E} w p q old now new result r sound number start caller replies lent whole = record {
  own = r.run;
  does = record {
    number = number ∙ r.number;
    start = start ∙ r.start;
    caller = caller;
    played = λ none.
        let l : PlaysLines w q old now r.run =
        subst (λ (x : Result (Unit {0}) E). OnOk x (PlaysLines w q old now r.run)) (whole none) r.played in
        record {
          before = l.before;
          next = l.next;
          ran = record {
            dones = l.ran.dones;
            are = l.ran.are;
            replied = l.ran.replied ∙ ap (λ (v : Vec Reply Global). v.items) (sym replies);
            calls = l.ran.calls;
            went = l.ran.went;
            outside = l.ran.outside;
            lasts = l.ran.lasts;
            many = l.ran.many;
            stands = l.ran.stands;
            exact = l.ran.exact;
            found = l.ran.found;
            full = l.ran.full;
            few = l.ran.few;
            loans = l.ran.loans;
          };
          runs = l.runs;
          lent = ap (λ (v : Vec Bound Global). map standing_as v.items) lent ∙ l.lent;
        };
  };
  makes = settled p q r.run r.went r.same_holds r.same_handles sound;
}

-- A pass has played a worker's lines, and has given back what they left.
pub played_as : {E : Type 0} (w : Playing) (p q r : View) (old new : Player) (next : List Standing) (result : Result (Unit {0}) E)
    → CanPlay w p old → new.number ≡ old.number → new.start ≡ old.start
    → OnOk result (LinesRan p q w.names w.firsts old.start [] next (lines_for w old) new.replies.items)
    → WentOn p q → WentOn q r → (All IsSpent next → r ≡ q) → (r.holds ≡ p.holds) × (r.handles ≡ p.handles)
    → map standing_as new.lent.items ≡ map lent next → PlayedAs w p r old new result
played_as w p q r old new next (Ok u) can number start ran went after spent same others =
    let is : r ≡ q = spent (worker_spent w.lines old.number p q w.names w.firsts old.start next new.replies.items can.rules can.worker can.behind
    can.numbered ran) in
    record {
      run = runs ran.dones;
      went = subst (λ (x : View). Went p x (runs ran.dones)) (sym is) ran.went;
      outside = after.outside;
      same_holds = same.0;
      same_handles = same.1;
      number = number;
      start = start;
      played = subst (λ (x : View). PlaysLines w x old new (runs ran.dones)) (sym is)
          (record { before = p; next = next; ran = ran; runs = refl; lent = others });
    }
played_as w p q r old new next (Err e) can number start ran went after spent same others = record {
  run = went.run ++ after.run;
  went = went_then p q r went.run after.run went.went after.went;
  outside = after.outside;
  same_holds = same.0;
  same_handles = same.1;
  number = number;
  start = start;
  played = tt;
}

-- Nothing was played.
pub played_none : {E : Type 0} (w : Playing) (p : View) (old : Player) (e : E) → p.inside ≡ None → PlayedAs w p p old old (Err e)
played_none w p old e outside = record {
  run = [];
  went = went_none p;
  outside = outside;
  same_holds = refl;
  same_handles = refl;
  number = refl;
  start = refl;
  played = tt;
}
