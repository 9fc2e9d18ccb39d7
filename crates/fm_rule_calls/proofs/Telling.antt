-- Calls of a pass as calls of a memory that tells its history.
use Rattle.std.proofs.{Common.{◌≡◌, true, List, ◌++◌, refl, ap, ◌∙◌, inl, inr, Option, Some, None}, lemmas.List.Elements.{filter-append}}
use Rattle.fm_base.specs.{Calls.{Entry}, Histories.{made_by}, View.{Told, TellsOn, Makes, Did, IsByItself}}
use Rattle.fm_rule_facts.specs.Views.{View, limit_of}
use Rattle.fm_rule_calls.{specs.{Kept.{Goes, rest_of, Kept}, Told.{told_of, view_of_pass, silent_view}}, proofs.Going.{reached}}

-- A pass that is by itself is known to be whole.
pub by_itself : (p : View) → IsByItself (view_of_pass p) → p.whole ≡ true
by_itself p (inl e) = absurd (cc)
by_itself p (inr w) = w

silent : (p : View) → ¬ (IsByItself (silent_view p))
silent p (inl e) = absurd (cc)
silent p (inr w) = w

-- A pass's way is that of a memory that tells so much.
makes_by : {p q : View} {own : List Entry} (old new : Option Told) (g : Goes p q own)
    → (IsByItself (record (view_of_pass p) { told = old }) → p.whole ≡ true) → TellsOn old new g.more own
    → Makes (record (view_of_pass p) { told = old }) (record (view_of_pass q) { told = new }) own
makes_by old new g whole told =
    let r = reached g in
    record {
      all = g.more;
      legal = r.legal;
      reached = r.state;
      by_caller = g.by_pass;
      alone = λ h. g.alone (whole h);
      inside = g.inside;
      same_limit = ap limit_of g.same_shape;
      same_caller = g.same_caller;
      same_alone = refl;
      told = told;
    }

-- A pass's way, whatever it has then, is that of a memory that tells nothing.
pub silent_makes : {p q : View} {own : List Entry} → Goes p q own → Makes (silent_view p) (silent_view q) own
silent_makes {p = p} g = makes_by None None g (λ h. absurd (silent p h)) tt

-- A pass's way that leaves what it has is the memory's.
pub makes_of : (p q : View) (own : List Entry) → Goes p q own → rest_of q ≡ rest_of p → Makes (view_of_pass p) (view_of_pass q) own
makes_of p q own g same = makes_by (Some (told_of p)) (Some (told_of q)) g (by_itself p) (record {
  seen = g.seen;
  mine = ap (λ c. made_by c q.seen) g.same_caller ∙ (ap (λ (es : List Entry). made_by p.caller es) g.seen ∙ (filter-append _ p.seen g.more
      ∙ ap (λ (es : List Entry). made_by p.caller p.seen ++ es) g.by_pass));
  finds = g.finds;
  rest = same;
  quiet = g.apart;
})

pub did_of : (p q : View) (P : List Entry → Type 0) → Kept p q P → Did (view_of_pass p) (view_of_pass q) P
did_of p q P k = record { own = k.own; does = k.does; makes = makes_of p q k.own k.goes k.rest }
