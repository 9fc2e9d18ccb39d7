use Rattle.std.proofs.Common.{◌++◌, List, ap, ◌∙◌}
use Rattle.fm_workers_crew.{specs.Rounds.{tasks_of}, proofs.Working.{crew_worked, refused_by}}
use Rattle.fm_workers_crew.proofs.crew.work_crew.Goals as goal

pub returns-in-Err-clause-worked : goal.returns-in-Err-clause-worked
returns-in-Err-clause-worked g c = refused_by c.in-Err.refusal c.in-Err.ensures.refused

pub returns-clause-worked : goal.returns-clause-worked
returns-clause-worked g c =
    let T = g.row.T.Denot in
    let ran = c.in-Ok.ensures.ran in
    crew_worked (g.W.Work.does c.args.work.now) ran.drawn c.in-Ok.crew.items c.requires.outside.no_number ran.called ran.worked
    c.gather_crew.ensures.gathered c.whole.ensures
    (c.gather_crew.ensures.tasks ∙ ap (λ (ts : List T). ts ++ tasks_of c.in-Ok.crew.items) c.in-Ok.ensures.none)
