-- Members are laid from the first to the last.
use Rattle.std.proofs.{Common.{◌≡◌, ◌+◌, max, drop, arith, refl}}
use Rattle.fm_ljson.proofs.Laying.{at_member, laid_end, laid_start, misaligned, one_more, past_limit}
use Rattle.fm_ljson.proofs.footprint.Footprint.structure.Goals as goal

pub loop-i-init : goal.loop-i-init
loop-i-init c = (omega arith, omega arith, λ ts h. laid_start c.args.members.now ts h)

pub loop-i-preserved : goal.loop-i-preserved
loop-i-preserved c =
    let wider : c.max-alignment.result ≡ max c.index-members-i.result.alignment c.loop-i.alignment = omega (arith, c.max-alignment.ensures) in (
      omega (arith, wider, c.loop-i.invariant.0),
      c.if-size-member-gt-LIMIT.false,
      λ ts h. one_more c.loop-i.i c.loop-i.size c.loop-i.alignment _ ts c.index-members-i.result (drop (c.loop-i.i + 1) c.args.members.now)
          (at_member _ _ _ ts c.args.members.now _ c.loop-i-test.true c.index-members-i.is (c.loop-i.invariant.2 ts h))
          c.if-size-member-ne0.false c.if-size-member-gt-LIMIT.false wider,
    )

pub returns-then-size-member-ne0 : goal.returns-then-size-member-ne0
returns-then-size-member-ne0 c = λ ts h.
    misaligned _ _ _ ts _ _ (at_member _ _ _ ts c.args.members.now _ c.loop-i-test.true c.index-members-i.is (c.loop-i.invariant.2 ts h))
    c.if-size-member-ne0.true

pub returns-then-size-member-gt-LIMIT : goal.returns-then-size-member-gt-LIMIT
returns-then-size-member-gt-LIMIT c = λ ts h.
    past_limit _ _ _ ts _ _ (at_member _ _ _ ts c.args.members.now _ c.loop-i-test.true c.index-members-i.is (c.loop-i.invariant.2 ts h))
    c.if-size-member-ne0.false c.if-size-member-gt-LIMIT.true

pub returns : goal.returns
returns c = λ ts h.
    laid_end c.loop-i.i _ _ ts c.args.members.now _ c.loop-i-test.false (c.loop-i.invariant.2 ts h) c.loop-i.invariant.0 refl refl refl
