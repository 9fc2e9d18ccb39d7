use Rattle.std.{proofs.Common.{rules, ◌<◌, List, length, subst}, specs.List.{AllByRecursion}}
use Rattle.fm_workers_crew.{specs.{declared.worker.Worker.{Worker}, Rounds.{IsSpare}}, proofs.Staying.{first_of}}
use Rattle.fm_workers_crew.proofs.then.gather_then.Goals as goal

pub gather_crew-requires-clause-spare : goal.gather_crew-requires-clause-spare
gather_crew-requires-clause-spare g c =
    let W = Worker g.row.T.Denot in
    let some : 0 < length c.args.crew.items = search rules in
    let is = first_of c.args.crew.items c.remove-worker.new.self.items c.remove-worker.result some c.remove-worker.ensures.value c.remove-worker.ensures.items in
    (subst (λ (ws : List W). AllByRecursion (λ (w : W). IsSpare c.args.pool.now w.memory) ws) is c.requires.spare).1
