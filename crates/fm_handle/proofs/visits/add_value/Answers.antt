use Rattle.fm_handle.{specs.Acts.{Adds}, proofs.Visiting.{acts_inside}}
use Rattle.fm_handle.proofs.visits.add_value.Goals as goal

pub returns : goal.returns
returns g c =
    acts_inside c.args.arena (Adds c.args.order c.args.arena c.args.place c.args.delta) _ _ c.add_inside-found.ensures.inside
    c.in_ok-enter.ensures.did c.add_inside-found.ensures.did c.leave.ensures.did c.leave.ensures.outside
