use Rattle.std.proofs.Common.{rules}
use Rattle.fm_segment_access.proofs.{Learnt.{after_get_value}, Touching.{said}, Values.{got_value}}
use Rattle.fm_segment_access.proofs.value.get_as.Goals as goal

pub returns-in_err-number : goal.returns-in_err-number
returns-in_err-number g c = after_get_value c.args.order c.requires (search rules)

pub returns : goal.returns
returns g c =
    after_get_value c.args.order c.requires (said _ _ _ _
    (λ own d. got_value _ _ _ _ c.args.kind c.args.order c.in_ok-number.number c.turned.result _ own c.width-width.ensures c.turned.ensures.turned
    c.decode.ensures.decoded d) c.in_ok-number.ensures.did)
