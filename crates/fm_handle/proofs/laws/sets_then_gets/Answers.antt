use Rattle.fm_handle.specs.Place.{value_place}
use Rattle.fm_segment_access.proofs.Values.{puts_then_gets}
use Rattle.fm_handle.proofs.laws.sets_then_gets.Goals as goal

pub returns : goal.returns
returns c =
    let h = c.args.handle.now in
    let r = c.args.s.now in
    puts_then_gets h.value.kind h.value.order r.arena (value_place c.args.base c.args.indices.now h r) c.args.v c.requires
    (rw (← c.encode.ensures.encoded) c.encode.ensures.fits) (rw (← c.encode.ensures.encoded) c.encode.ensures.back)
