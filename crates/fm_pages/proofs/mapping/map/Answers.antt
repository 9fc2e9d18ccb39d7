use Rattle.std.proofs.Common.{refl, ap}
use Rattle.fm_rule_facts.specs.Views.{View}
use Rattle.fm_pages.proofs.{Bids.{claimed_still}, Mapped.{page_mapped, part_taken}}
use Rattle.fm_pages.proofs.mapping.map.Goals as goal

pub returns-then-other-ne0 : goal.returns-then-other-ne0
returns-then-other-ne0 c =
    let taken = part_taken c.args.id c.args.index c.args.page.index c.step_map-other.result c.requires.page.there c.step_map-other.ensures.stepped
    c.if-other-ne0.true c.requires.inside in
    (refl, claimed_still taken.way.goes (ap (λ (v : View). v.pages) taken.way.is) c.requires.page, taken)

pub returns : goal.returns
returns c = page_mapped c.args.id c.args.index c.args.page.index c.step_map-other.result c.requires.page.there c.step_map-other.ensures.stepped c.if-other-ne0.false
