use Rattle.std.proofs.Common.{◌++◌, List, ap, ◌∙◌}
use Rattle.fm_workers_crew.{specs.Rounds.{tasks_of}, proofs.{GoingOn.{crew_went_on, no_crew, then_refused}, Staying.{can_later, later_by}}}
use Rattle.fm_workers_crew.proofs.then.work_crew_then.Goals as goal

pub returns-in-Err-clause-went_on : goal.returns-in-Err-clause-went_on
returns-in-Err-clause-went_on g c =
    then_refused (g.W.Work.does c.args.work.now) (g.W.Then.goes_on c.args.work.now c.args.work.now c.run_crew.new.tasks.items) c.in-Err.refusal
    c.in-Err.ensures.refused

pub gather_then-requires-clause-can : goal.gather_then-requires-clause-can
gather_then-requires-clause-can g c κs within =
    let laws = g.met.W.Then g.world.𝓛 g.world.𝓜 g.world.𝓡 ((λ s x. x), (λ x. x), (λ x. x), λ x. x) in
    let work = c.args.work.now in
    let m = c.in-Ok.ensures.ran.called.went in
    can_later (g.W.Then.can_go_on work) c.args.pass.now c.run_crew.new.pass (ap (λ v. v.shape) m.is) (m.more, m.seen)
    (later_by (g.W.Then.can_go_on work) c.args.pass.now (laws.still_can work) c.requires.can_go_on)

pub returns-clause-went_on : goal.returns-clause-went_on
returns-clause-went_on g c =
    let T = g.row.T.Denot in
    let ws = c.in-Ok.crew.items in
    crew_went_on (g.W.Work.does c.args.work.now) (g.W.Then.goes_on c.args.work.now c.gather_then.new.work c.gather_then.new.tasks.items) ws c.requires.outside.of
    c.requires.outside.no_number c.in-Ok.ensures.ran c.gather_then.ensures.gathered c.whole.ensures
    (c.gather_then.ensures.tasks ∙ ap (λ (ts : List T). ts ++ tasks_of ws) c.in-Ok.ensures.none)

pub returns-clause-nobody : goal.returns-clause-nobody
returns-clause-nobody g c none =
    c.gather_then.ensures.nobody (no_crew (g.W.Work.does c.args.work.now) c.in-Ok.crew.items c.in-Ok.ensures.ran none)
