-- A pass that has what it had went on as a memory does.
use Rattle.std.proofs.{Common.{List, [], ◌++◌, refl, ap, ◌∙◌, subst}, lemmas.List.Elements.{filter-append}}
use Rattle.fm_base.{specs.{Calls.{Entry}, Histories.{IsLegal, state_after, made_by}}, proofs.Making.{IsLegal-split, state_after-append}}
use Rattle.fm_words.specs.declared.shape.Shape.{Shape}
use Rattle.fm_rule_facts.specs.Views.{limit_of}
use Rattle.fm_rule_calls.{specs.Kept.{rest_of}, proofs.Telling.{by_itself}}
use Rattle.fm_script_lines.specs.Laws.{SettledIsMade}

pub settled : SettledIsMade
settled p q own g hs ks sound =
    let legal : IsLegal (limit_of p.shape) [] (p.seen ++ g.more) = subst (λ (es : List Entry). IsLegal (limit_of p.shape) [] es) g.seen
    (subst (λ (z : Shape). IsLegal (limit_of z) [] q.seen) g.same_shape sound.told.0) in
    record {
      all = g.more;
      legal = (IsLegal-split (limit_of p.shape) [] p.seen g.more legal).1;
      reached = (λ i. state_after (limit_of (g.same_shape i)) [] (g.seen i)) ∙ state_after-append (limit_of p.shape) [] p.seen g.more;
      by_caller = g.by_pass;
      alone = λ h. g.alone (by_itself p h);
      inside = g.inside;
      same_limit = ap limit_of g.same_shape;
      same_caller = g.same_caller;
      same_alone = refl;
      told = record {
        seen = g.seen;
        mine = ap (λ c. made_by c q.seen) g.same_caller ∙ (ap (λ (es : List Entry). made_by p.caller es) g.seen
            ∙ (filter-append _ p.seen g.more ∙ ap (λ (es : List Entry). made_by p.caller p.seen ++ es) g.by_pass));
        finds = g.finds;
        rest = g.rest ∙ (λ i. record (rest_of p) { holds = hs i; handles = ks i });
        quiet = g.quiet;
      };
    }
