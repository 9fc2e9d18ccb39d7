use Rattle.fm_visit.proofs.Getting.{got_value}
use Rattle.fm_visit.proofs.value.get_as.Goals as goal

pub returns-clause-did : goal.returns-clause-did
returns-clause-did g c =
    got_value c.args.kind c.args.order c.width-width.result c.get_number-number.result c.turned.result c.decode.result c.width-width.ensures c.turned.ensures.turned
    c.decode.ensures.decoded c.get_number-number.ensures.did
