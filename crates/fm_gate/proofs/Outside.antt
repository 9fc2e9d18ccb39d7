-- Where a pass stands after a call.
use Rattle.std.proofs.Common.{◌≡◌, ◌∙◌, ℕ, List, ap, Some, None}
use Rattle.fm_base.specs.{declared.arena_id.ArenaId.{ArenaId}, Calls.{Entry}, Finds.{Find}}
use Rattle.fm_rule_facts.specs.{Hands.{nothing, no_number}, Parts.{unread}, Views.{View}, Steps.{Stepped}}
use Rattle.fm_rule.specs.{declared.pool.Pool.{Pool}, Passes.{IsOf}}
use Rattle.fm_rule_calls.specs.Kept.{Goes}
use Rattle.fm_pages.specs.Makers.{made_by_pass}
use Rattle.fm_gate.specs.Needs.{IsOutside, IsInside}

-- It is the maker that it was.
pub made_on : {p q : View} {own : List Entry} → Goes p q own → made_by_pass q ≡ made_by_pass p
made_on g = λ j. record { home = g.same_home j; caller = g.same_caller j }

-- It is still one of its pool.
pub of_on : (pool : Pool) {p q : View} {own : List Entry} → Goes p q own → IsOf pool p → IsOf pool q
of_on pool g o = (g.same_home ∙ o.0, g.same_shape ∙ o.1)

-- It sweeps what its new part sweeps.
pub swept_is : {p q part : View} {own : List Entry} {noted : ℕ → List Find} → Stepped p q part own noted → q.swept ≡ part.swept
swept_is s = ap (λ (x : View). x.swept) s.is_part

-- Outside, where it is in no arena and publishes no mark.
pub stands_outside : {pool : Pool} {p q : View} {own : List Entry} → Goes p q own → IsOf pool p → p.number ≡ no_number → q.hand ≡ nothing
    → q.swept ≡ unread → q.inside ≡ None → q.mark ≡ None → IsOutside pool q
stands_outside {pool = pool} g o d h w i m =
    record { of = of_on pool g o; outside = i; unmarked = m; no_number = g.same_number ∙ d; no_slot = h; no_part = w }

-- Inside.
pub stands_inside : {pool : Pool} {p q : View} {own : List Entry} {a : ArenaId} → Goes p q own → IsOf pool p → p.number ≡ no_number → q.hand ≡ nothing
    → q.swept ≡ unread → q.inside ≡ Some a → IsInside pool q a
stands_inside {pool = pool} g o d h w i = record { of = of_on pool g o; inside = i; no_number = g.same_number ∙ d; no_slot = h; no_part = w }
