use Rattle.std.proofs.Common.{ap, sym, ◌∙◌}
use Rattle.fm_words.specs.declared.shape.Shape.{Shape}
use Rattle.fm_close.proofs.Parts.{part_empty, part_named, part_unmapped, part_still, part_taken, sweeps_same, all_words}
use Rattle.fm_close.proofs.sweeping.take_back.Goals as goal

pub returns-then-word-eq0 : goal.returns-then-word-eq0
returns-then-word-eq0 c = part_empty c.args.part c.step_sweep_map-word.result c.step_sweep_map-word.ensures.stepped c.if-word-eq0.true

pub wipe-requires-clause-part : goal.wipe-requires-clause-part
wipe-requires-clause-part c =
    part_still (part_unmapped (part_named c.args.part c.step_sweep_map-word.result c.step_sweep_map-word.ensures.stepped c.if-word-eq0.false)
    c.step_unmap.ensures) c.requires.part

pub step_return_page-requires-clause-all : goal.step_return_page-requires-clause-all
step_return_page-requires-clause-all c =
    let n = part_named c.args.part c.step_sweep_map-word.result c.step_sweep_map-word.ensures.stepped c.if-word-eq0.false in
    let w = sweeps_same (part_unmapped n c.step_unmap.ensures) c.wipe.ensures in
    all_words c.args.id c.args.part c.args.given _ c.given_words-words.result w c.requires.part.sound c.requires.part.next c.requires.gave
    (ap (λ (z : Shape). z.page_words) (c.shape.ensures.shape ∙ sym c.requires.part.of.1)) c.given_words-words.ensures.all

pub returns : goal.returns
returns c =
    let n = part_named c.args.part c.step_sweep_map-word.result c.step_sweep_map-word.ensures.stepped c.if-word-eq0.false in
    part_taken (sweeps_same (part_unmapped n c.step_unmap.ensures) c.wipe.ensures) c.step_return_page.ensures
