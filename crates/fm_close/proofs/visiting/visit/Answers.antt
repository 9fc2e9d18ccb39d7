use Rattle.std.proofs.Common.{◌∙◌, ap, sym}
use Rattle.fm_words.specs.declared.shape.Shape.{Shape}
use Rattle.fm_close.proofs.Looks.{slot_low, after_inside, after_next, after_last}
use Rattle.fm_close.proofs.visiting.visit.Goals as goal

pub returns-then-found-mark_of : goal.returns-then-found-mark_of
returns-then-found-mark_of c = after_inside _ c.requires c.step_visit-found.ensures.own c.step_visit-found.ensures.stepped (c.if-found-mark_of.true
    ∙ c.mark_of.ensures)

pub returns-then-k-shape : goal.returns-then-k-shape
returns-then-k-shape c =
    let z = ap (λ (x : Shape). x.passes) (c.shape.ensures.shape ∙ sym c.requires.outside.of.1) in
    after_last _ c.requires c.step_visit-found.ensures.own c.step_visit-found.ensures.stepped (λ e. c.if-found-mark_of.false (e
    ∙ sym c.mark_of.ensures)) (c.if-k-shape.true ∙ z)

pub returns : goal.returns
returns c =
    let z = ap (λ (x : Shape). x.passes) (c.shape.ensures.shape ∙ sym c.requires.outside.of.1) in
    after_next _ c.requires c.step_visit-found.ensures.own c.step_visit-found.ensures.stepped (λ e. c.if-found-mark_of.false (e
    ∙ sym c.mark_of.ensures)) (λ e. c.if-k-shape.false (e ∙ sym z))

pub mark_of-requires : goal.mark_of-requires
mark_of-requires c = slot_low _ c.requires c.step_visit-found.ensures.own c.step_visit-found.ensures.stepped
