use Rattle.fm_workers_crew.specs.Rounds.{IsSpare}
use Rattle.fm_workers_crew.proofs.{Gathering.{can_gather}, Staying.{spare_on}}
use Rattle.fm_workers_crew.proofs.then.finish.Goals as goal

pub gather-requires-clause-other : goal.gather-requires-clause-other
gather-requires-clause-other g c =
    let s : IsSpare c.args.pool.now c.go_on.new.memory = spare_on c.requires.spare c.meet.ensures c.go_on.ensures.did c.go_on.ensures.outside in
    can_gather c.into_pass.ensures.same s (c.into_pass.ensures.outside c.args.pool.now s.of)
