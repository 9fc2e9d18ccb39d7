use Rattle.std.proofs.Common.{◌≡◌, ap, arith}
use Rattle.fm_words.specs.declared.shape.Shape.{Shape}
use Rattle.fm_close.proofs.Parts.{parts_none, parts_more, gave_still, of_still}
use Rattle.fm_close.proofs.sweeping.take_pages_back.Goals as goal

pub loop-part-init : goal.loop-part-init
loop-part-init c = parts_none c.requires.sound c.requires.idle c.requires.begun

pub take_back-requires-clause-part : goal.take_back-requires-clause-part
take_back-requires-clause-part c =
    let t = c.loop-part.invariant in
    let reach : c.shape-part-end.result.reach ≡ c.args.pool.now.shape.reach = ap (λ (z : Shape). z.reach) c.shape-part-end.ensures.shape in
    record { of = of_still t.goes_on c.args.pool.now c.requires.of; sound = t.goes_on.goes.sound; next = t.at; low = omega arith }

pub take_back-requires-clause-gave : goal.take_back-requires-clause-gave
take_back-requires-clause-gave c = gave_still c.args.id 0 c.args.given c.loop-part.invariant.goes_on c.requires.sound c.requires.begun c.requires.gave

pub loop-part-preserved : goal.loop-part-preserved
loop-part-preserved c = parts_more c.loop-part.invariant c.take_back.ensures
