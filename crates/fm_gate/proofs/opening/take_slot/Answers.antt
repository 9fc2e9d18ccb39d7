use Rattle.std.proofs.Common.{◌<◌, ◌∙◌, refl, subst}
use Rattle.fm_words.specs.declared.shape.Shape.{Shape}
use Rattle.fm_gate.proofs.Bids.{bids_begin, bids_go_on, bid_taken, bid_none}
use Rattle.fm_gate.proofs.opening.take_slot.Goals as goal

pub loop-init : goal.loop-init
loop-init g c = bids_begin c.requires.of c.requires.none

pub step_take_slot-found-requires-clause-of : goal.step_take_slot-found-requires-clause-of
step_take_slot-found-requires-clause-of g c = c.loop.invariant.of

pub step_take_slot-found-requires-clause-none : goal.step_take_slot-found-requires-clause-none
step_take_slot-found-requires-clause-none g c = c.loop.invariant.none

pub returns-then-found-eq0-clause-no_slot : goal.returns-then-found-eq0-clause-no_slot
returns-then-found-eq0-clause-no_slot g c = (
  refl,
  bid_none c.of-bid.result.word c.of-bid.result.bit _ c.loop.invariant c.step_take_slot-found.ensures.stepped c.step_take_slot-found.ensures.slots
      (subst (λ (z : Shape). c.of-bid.result.bit < z.slots) c.shape-slots.ensures.shape c.of-bid.ensures.low) c.if-found-eq0.true c.of-bid.ensures.has,
)

pub returns-then-found-bid-clause-taken : goal.returns-then-found-bid-clause-taken
returns-then-found-bid-clause-taken g c =
    bid_taken c.of-bid.result.word c.of-bid.result.bit _ c.loop.invariant c.step_take_slot-found.ensures.stepped c.step_take_slot-found.ensures.slots
    (subst (λ (z : Shape). c.of-bid.result.bit < z.slots) c.shape-slots.ensures.shape c.of-bid.ensures.low) c.if-found-bid.true
    (c.of-bid.ensures.has (λ e. c.if-found-eq0.false (c.if-found-bid.true ∙ e)))

pub loop-preserved : goal.loop-preserved
loop-preserved g c =
    bids_go_on c.of-bid.result.word c.of-bid.result.bit _ c.loop.invariant c.step_take_slot-found.ensures.stepped c.step_take_slot-found.ensures.slots
    (subst (λ (z : Shape). c.of-bid.result.bit < z.slots) c.shape-slots.ensures.shape c.of-bid.ensures.low) c.if-found-bid.false
