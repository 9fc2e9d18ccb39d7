use Rattle.std.proofs.Common.{ap, ◌∙◌, sym, arith}
use Rattle.fm_words.specs.declared.shape.Shape.{Shape}
use Rattle.fm_close.proofs.Sweeps.{its_next, past_parts, after_last, after_given}
use Rattle.fm_close.proofs.sweeping.sweep.Goals as goal

pub step_retire-requires-clause-sweep : goal.step_retire-requires-clause-sweep
step_retire-requires-clause-sweep c = past_parts c.requires c.step_sweep_given-given.ensures.stepped c.take_pages_back.ensures c.step_reset_given.ensures

pub overflow_add-arena : goal.overflow_add-arena
overflow_add-arena c =
    let n = its_next c.requires c.step_sweep_given-given.ensures.stepped c.take_pages_back.ensures c.step_reset_given.ensures in omega arith

pub returns-then-arena-shape : goal.returns-then-arena-shape
returns-then-arena-shape c =
    let z = ap (λ (x : Shape). x.generations) (c.shape.ensures.shape ∙ sym c.requires.outside.of.1) in
    after_last c.requires c.step_sweep_given-given.ensures.stepped c.take_pages_back.ensures c.step_reset_given.ensures c.step_retire.ensures
    (c.if-arena-shape.true ∙ z)

pub returns : goal.returns
returns c =
    let z = ap (λ (x : Shape). x.generations) (c.shape.ensures.shape ∙ sym c.requires.outside.of.1) in
    after_given c.requires c.step_sweep_given-given.ensures.stepped c.take_pages_back.ensures c.step_reset_given.ensures c.step_retire.ensures
    (λ e. c.if-arena-shape.false (e ∙ sym z)) c.step_give_slot.ensures
