use Rattle.fm_handle.{specs.Acts.{Exchanges}, proofs.Visiting.{acts_inside}}
use Rattle.fm_handle.proofs.visits.exchange_value.Goals as goal

pub returns : goal.returns
returns g c =
    acts_inside c.args.arena (Exchanges c.args.order c.args.arena c.args.place c.args.expected c.args.v) _ _ c.exchange_inside-found.ensures.inside
    c.in_ok-enter.ensures.did c.exchange_inside-found.ensures.did c.leave.ensures.did c.leave.ensures.outside
