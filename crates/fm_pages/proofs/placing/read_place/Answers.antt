use Rattle.std.proofs.Common.{◌<◌, ◌/◌, sym, ◌∙◌, subst}
use Rattle.fm_words.specs.declared.shape.Shape.{Shape}
use Rattle.fm_pages.proofs.Finding.{part_low, placed_by}
use Rattle.fm_pages.proofs.placing.read_place.Goals as goal

pub step_find-requires-clause-low : goal.step_find-requires-clause-low
step_find-requires-clause-low c =
    subst (λ (z : Shape). c.args.word / z.page_words < z.reach) c.requires.of.1
    (part_low c.args.pass.now c.args.word c.number-number.ensures.sound c.requires.find)

pub returns : goal.returns
returns c =
    placed_by c.args.pass.now c.step_find.new.pass c.args.word c.step_find.result c.in-Some.a c.number-number.ensures.sound c.requires.find
    (sym c.inside.ensures.inside ∙ c.in-Some.is) c.step_find.ensures
