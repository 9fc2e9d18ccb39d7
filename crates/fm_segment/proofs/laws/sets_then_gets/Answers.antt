use Rattle.fm_segment.proofs.Alone as alone
use Rattle.fm_segment.proofs.laws.sets_then_gets.Goals as goal

pub returns : goal.returns
returns c =
    alone.sets_then_gets c.args.segment.now c.args.layout.now c.args.offset c.args.v c.requires (rw (← c.encode.ensures.encoded) c.encode.ensures.fits)
    (rw (← c.encode.ensures.encoded) c.encode.ensures.back)
