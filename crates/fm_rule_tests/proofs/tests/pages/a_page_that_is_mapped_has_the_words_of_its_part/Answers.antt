use Rattle.std.proofs.Common.{◌≡◌, ◌/◌, ℕ, ap, sym, ◌∙◌, subst, inr}
use Rattle.fm_words.specs.declared.shape.Shape.{Shape}
use Rattle.fm_base.specs.declared.arena_id.ArenaId.{ArenaId}
use Rattle.fm_rule_facts.specs.{Loans.{HasPart, loans_of}, Parts.{mapping_of}, Views.{View}}
use Rattle.fm_rule_tests.proofs.tests.pages.a_page_that_is_mapped_has_the_words_of_its_part.Goals as goal

pub place_of-place-requires-clause-find : goal.place_of-place-requires-clause-find
place_of-place-requires-clause-find g c =
    let m = c.in-None.ensures in
    let a : ArenaId = c.entered-pool.result.2 in
    let v : View = c.map.new.pass in
    let inside = ap (λ (u : View). u.inside) m.way.is ∙ (ap (λ (u : View). u.inside) c.claimed-page.ensures.claimed.went.is ∙ c.entered-pool.ensures.inside) in
    let size : v.shape.page_words ≡ 4 = ap (λ (z : Shape). z.page_words)
    (m.way.goes.same_shape ∙ (c.claimed-page.ensures.claimed.went.goes.same_shape ∙ (c.entered-pool.ensures.of.1 ∙ c.entered-pool.ensures.shape))) in
    let page : ℕ = c.claimed-page.result.index in
    let part : HasPart (loans_of v.seen) a 1 = (page, m.way.goes.sound.reads a (mapping_of 1 page) inside m.read) in
    record { id = a; inside = inside; part = inr (subst (λ (n : ℕ). HasPart (loans_of v.seen) a (5 / n)) (sym size) part) }
