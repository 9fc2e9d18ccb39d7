use Rattle.std.proofs.Common.{◌∙◌, ap}
use Rattle.fm_lanes.specs.Kind.{width_of}
use Rattle.fm_segment_access.proofs.Values.{put_bytes}
use Rattle.fm_visit.proofs.value.put_value.Goals as goal

pub returns-clause-did : goal.returns-clause-did
returns-clause-did g c =
    rw (← put_bytes c.args.v c.args.order c.width-width.result c.turned.result c.encode.result
    (c.width-width.ensures ∙ ap width_of c.kind.ensures) c.encode.ensures.encoded c.turned.ensures.turned) c.put_number.ensures.did
