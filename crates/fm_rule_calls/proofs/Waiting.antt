-- Steps that are tried until one finds the word that it expects.
use Rattle.std.proofs.Common.{◌≡◌, List, [], refl, ap, sym, ◌∙◌}
use Rattle.fm_base.specs.{declared.arena_id.ArenaId.{ArenaId}, Calls.{Entry}}
use Rattle.fm_rule_facts.specs.{Views.{View, IsKnown}, Steps.{Stepped, none_noted}}
use Rattle.fm_rule_calls.{specs.Kept.{Goes}, proofs.Going.{goes_step, goes_then, no_draws, known_on}}

-- The pass has come from o to p by steps that left it as it was, but for what it has seen: where it goes from there it goes from o
pub record Waited (o p : View) : Type 0 where
  pub onward : (q : View) (own : List Entry) → Goes p q own → Goes o q own
  pub known : (a : ArenaId) → IsKnown o a → IsKnown p a
  pub is : p ≡ record o { seen = p.seen; finds = p.finds }

-- It has made none.
pub waits : {o : View} → Waited o o
waits = record { onward = λ q own g. g; known = λ a h. h; is = refl }

-- A step that makes no entry and leaves the pass as it was.
pub waits_by : {p q : View} → Stepped p q p [] none_noted → Goes p q []
waits_by s = goes_step s refl refl refl no_draws

-- It has made one more.
pub waits_on : {o p q : View} → Waited o p → Stepped p q p [] none_noted → Waited o q
waits_on {p = p} {q = q} w s =
    let g = waits_by s in
    record {
      onward = λ r own h. w.onward r own (goes_then g h);
      known = λ a h. known_on g a (w.known a h);
      is = s.is_part ∙ ((λ j. record p { seen = q.seen; finds = sym (ap (λ (x : View). x.finds) s.is_part) j })
          ∙ ap (λ (x : View). record x { seen = q.seen; finds = q.finds }) w.is);
    }
