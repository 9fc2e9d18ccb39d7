use Rattle.std.proofs.Common.{◌≡◌, max, arith}
use Rattle.fm_layout.specs.Tree.{alignment_of}
use Rattle.fm_ljson_write.proofs.Rest.{impossible, rising_start, rising_more, rising_end}
use Rattle.fm_ljson_write.proofs.canonical.greatest_of.Goals.{then-greatest-alignment, else-greatest-alignment}
use Rattle.fm_ljson_write.proofs.canonical.greatest_of.Goals as goal

pub loop-i-init : goal.loop-i-init
loop-i-init c = rising_start c.args.layout.now

pub returns-in_default : goal.returns-in_default
returns-in_default c = absurd (impossible c.loop-i.i c.args.count c.args.layout.now c.loop-i-test.true c.requires c.in_default.ensures)

pub loop-i-preserved : goal.loop-i-preserved
loop-i-preserved c =
    let old = c.loop-i in
    let member = c.in-Some.member.now in
    let new = c.if-greatest-alignment.greatest in
    let greater : new ≡ max old.greatest (alignment_of member) =
    elim c.if-greatest-alignment.branch [
      | then-greatest-alignment w ↦ omega (
        arith,
        w.greatest-is,
        w.alignment-greatest.ensures.alignment,
        w.if-greatest-alignment.true,
        c.alignment.ensures.alignment,
      )
      | else-greatest-alignment w ↦ omega (arith, w.greatest-is, w.if-greatest-alignment.false, c.alignment.ensures.alignment)
    ] in
    rising_more old.greatest new old.i c.args.layout.now member old.invariant c.in-Some.ensures greater

pub returns : goal.returns
returns c = rising_end c.loop-i.greatest c.loop-i.i c.args.layout.now c.loop-i.invariant (omega (arith, c.requires, c.loop-i-test.false))
