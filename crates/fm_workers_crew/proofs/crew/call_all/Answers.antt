use Rattle.std.proofs.Common.{◌++◌, List, reverse, ap, ◌∙◌}
use Rattle.fm_workers_crew.{specs.{declared.worker.Worker.{Worker}, Rounds.{tasks_of}}, proofs.{Turning.{called_all}, Workers.{spare_all}}}
use Rattle.fm_workers_crew.proofs.Working.{crew_none, crew_refused}
use Rattle.fm_workers_crew.proofs.crew.call_all.Goals as goal

pub returns-in_default-clause-refused : goal.returns-in_default-clause-refused
returns-in_default-clause-refused g c = crew_none (λ p t u own. ⊥) c.args.pass.now c.args.tasks.now.items

pub returns-in_default-with_capacity-clause-refused : goal.returns-in_default-with_capacity-clause-refused
returns-in_default-with_capacity-clause-refused g c = crew_none (λ p t u own. ⊥) c.args.pass.now c.args.tasks.now.items

pub gather_crew-requires-clause-spare : goal.gather_crew-requires-clause-spare
gather_crew-requires-clause-spare g c =
    spare_all c.args.pool.now c.args.pass.now c.call_up.new.crew.items c.requires.of c.call_up.ensures.called.workers

pub returns-in-Err-clause-refused : goal.returns-in-Err-clause-refused
returns-in-Err-clause-refused g c =
    let T = g.row.T.Denot in
    let us : List (Worker T) = c.call_up.new.crew.items in
    let left : List T = c.call_up.new.tasks.items in
    let turned = c.turn.ensures.moved ∙ ap (λ (ts : List T). ts ++ reverse c.args.tasks.now.items) c.in-Ok.ensures.items in
    let gathered = c.gather_crew.ensures.tasks ∙ ap (λ (ts : List T). ts ++ tasks_of us) c.turn.ensures.none in
    crew_refused (λ p t u own. ⊥) c.call_up.new.crew.items c.in-Err.refusal c.requires.no_number c.in-Err.ensures.called
    c.gather_crew.ensures.gathered c.whole.ensures turned (c.turn-in-Err.ensures.moved ∙ ap (λ (ts : List T). ts ++ reverse left) gathered)

pub returns-clause-called : goal.returns-clause-called
returns-clause-called g c =
    let T = g.row.T.Denot in
    called_all c.args.tasks.now.items (c.turn.ensures.moved ∙ ap (λ (ts : List T). ts ++ reverse c.args.tasks.now.items) c.in-Ok.ensures.items) c.in_default-call_up.ensures.called
