use Rattle.std.proofs.Common.{◌+◌, ◌≤◌, ℕ, true, false, ap, sym, ◌∙◌, subst}
use Rattle.fm_base.specs.Machine.{rounded_up}
use Rattle.fm_rule_facts.specs.Views.{limit_of}
use Rattle.fm_pages.{specs.Covers.{Covered}, proofs.Gives.{room_some, tried_past, tried_covered, tried_unpaged}}
use Rattle.fm_pages.proofs.giving.try_at.Goals as goal

pub returns-in-None : goal.returns-in-None
returns-in-None g c = tried_past c.args.id c.args.count c.args.size c.args.align c.step_allocate-found.result c.requires.inside c.requires.none
    c.step_allocate-found.ensures.stepped c.step_allocate-found.ensures.count

pub returns-then-not-covered : goal.returns-then-not-covered
returns-then-not-covered g c =
    let r = room_some c.limit.result c.args.count c.args.size c.args.align c.in-Some.place (sym c.in-Some.is ∙ c.room.ensures) in
    tried_unpaged c.args.id c.args.count c.args.size c.args.align
    (subst (λ (n : ℕ). rounded_up c.args.count c.args.align + c.args.size ≤ n) (c.limit.ensures ∙ ap limit_of (sym c.requires.of.1)) r.1)
    (subst (λ (n : ℕ). Covered c.args.pass.now c.cover-covered.new.pass c.args.id c.args.count (n + c.args.size) false) r.0 c.if-not-covered.ensures)

pub returns-else-not-covered : goal.returns-else-not-covered
returns-else-not-covered g c =
    let r = room_some c.limit.result c.args.count c.args.size c.args.align c.in-Some.place (sym c.in-Some.is ∙ c.room.ensures) in
    tried_covered c.args.id c.args.count c.args.size c.args.align c.step_allocate-found-in-Some.result c.requires.inside
    (subst (λ (n : ℕ). rounded_up c.args.count c.args.align + c.args.size ≤ n) (c.limit.ensures ∙ ap limit_of (sym c.requires.of.1)) r.1)
    (subst (λ (n : ℕ). Covered c.args.pass.now c.cover-covered.new.pass c.args.id c.args.count (n + c.args.size) true) r.0 c.if-not-covered.ensures)
    c.step_allocate-found-in-Some.ensures.stepped c.step_allocate-found-in-Some.ensures.count
