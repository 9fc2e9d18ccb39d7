-- What stays known where a pass is drawn, and gathered.
use Rattle.std.proofs.Common.{◌≡◌, ap, ◌∙◌, subst, Result, Ok, IfOk}
use Rattle.fm_rule_calls.{proofs.Going.{lasts_by, reached_by}, specs.Told.{view_of_pass}}
use Rattle.fm_rule_facts.specs.{Hands.{no_number}, Views.{View}}
use Rattle.fm_rule.specs.Draws.{Drawn, Gathers}
use Rattle.fm_segment.specs.{Access.{IsKnown}, Region.{Region}}
use Rattle.fm_workers.specs.Asking.{known_later}

-- The pass that a draw answered is drawn.
pub drawn_as : {p q d : View} {E : Type 0} {r : Result View E} → IfOk r (λ x. Drawn p q x) → r ≡ Ok d → Drawn p q d
drawn_as {p = p} {q = q} h is = subst (λ r. IfOk r (λ x. Drawn p q x)) is h

-- What was known to who drew it is known still,
pub known_drew : {p q d : View} {s : Region} → Drawn p q d → IsKnown (view_of_pass p) s → IsKnown (view_of_pass q) s
known_drew {p = p} {q = q} k known =
    known_later (lasts_by (reached_by {p = p} {q = q} k.asked.more k.asked.seen (ap (λ (v : View). v.shape) k.asked.is) k.giver_sound)) known

-- to the drawn one too,
pub known_new : {p q d : View} {s : Region} → Drawn p q d → IsKnown (view_of_pass p) s → IsKnown (view_of_pass d) s
known_new {p = p} {d = d} k known =
    known_later (lasts_by (reached_by {p = p} {q = d} k.asked.more (ap (λ (v : View). v.seen) k.is ∙ k.asked.seen)
    (ap (λ (v : View). v.shape) k.is ∙ ap (λ (v : View). v.shape) k.asked.is) k.sound)) known

-- and to who gathered it.
pub known_gathered : {p d q : View} {s : Region} → Gathers p d no_number q → IsKnown (view_of_pass p) s → IsKnown (view_of_pass q) s
known_gathered {p = p} {q = q} k known =
    known_later (lasts_by (reached_by {p = p} {q = q} k.more k.seen (ap (λ (v : View). v.shape) k.is) k.sound)) known
