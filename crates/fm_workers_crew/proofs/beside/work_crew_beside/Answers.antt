use Rattle.std.{proofs.{Common.{◌≡◌, ◌++◌, List, length, take, drop, sym, ap, ◌∙◌, subst, None}, lemmas.List.{take_at}}, specs.List.{AllByRecursion}}
use Rattle.std.proofs.lemmas.List.Elements.{All-same, All-from_recursion, recursion_from_All}
use Rattle.fm_rule_calls.{specs.Kept.{Lasts}, proofs.Going.{lasts_by, reached_by}}
use Rattle.fm_arena.specs.Lasting.{SamePool}
use Rattle.fm_rule_facts.specs.Views.{View}
use Rattle.fm_workers_crew.specs.{declared.worker.Worker.{Worker}, Rounds.{IsSpare, GatheredCrew, tasks_of}}
use Rattle.fm_workers_crew.proofs.{Besides.{acted_as, outside_acted, worked_beside}, Turning.{tasks_called}, Workers.{ready_all, spare_all, spare_after}}
use Rattle.fm_workers_crew.proofs.Working.{refused_by, zip_worked}
use Rattle.fm_workers_crew.proofs.beside.work_crew_beside.Goals as goal

pub returns-in-Err-clause-works : goal.returns-in-Err-clause-works
returns-in-Err-clause-works g c = refused_by c.in-Err.refusal c.in-Err.ensures.refused

pub new-memory-requires : goal.new-memory-requires
new-memory-requires g c = record {
  outside = c.call_all.ensures.outside;
  no_page = ap (λ (v : View). v.pages) c.in-Ok.ensures.called.went.is ∙ c.requires.shares.no_page;
}

pub work_beside-requires-clause-ready : goal.work_beside-requires-clause-ready
work_beside-requires-clause-ready g c κs within =
    let T = g.row.T.Denot in
    let W = Worker T in
    let laws = g.met.W.Work g.world.𝓛 g.world.𝓜 g.world.𝓡 ((λ s x. x), (λ x. x), (λ x. x), λ x. x) in
    let p = c.args.pass in
    let can : View → T → Type 0 = g.W.Work.can c.args.work.now in
    let ready : W → Type 0 = λ w. (w.memory.inside ≡ None) × g.W.Work.can c.args.work.now w.memory w.task in
    let ws : List W = c.in-Ok.crew.items in
    let a = c.in-Ok.ensures.called in
    let all = recursion_from_All (can p) (tasks_of ws) (All-same (can p) (tasks_of ws) c.args.tasks.now.items (sym (tasks_called a)) c.requires.can) in
    All-same ready c.as_mut_slice.result.now ws c.as_mut_slice.ensures.value
    (All-from_recursion ready ws (ready_all (g.W.Work.can c.args.work.now) (laws.stays c.args.work.now) p ws a.workers all))

pub work_beside-requires-clause-can : goal.work_beside-requires-clause-can
work_beside-requires-clause-can g c κs within =
    let laws = g.met.B.Beside in
    let m = c.in-Ok.ensures.called.went in
    let drew = c.call_all.new.pass in
    let lasts : Lasts c.args.pass drew = lasts_by (reached_by {p = c.args.pass} {q = drew} m.more m.seen (ap (λ (v : View). v.shape) m.is) c.caller-caller.ensures.sound) in
    let same : SamePool c.args.pass drew = record { home = ap (λ (v : View). v.home) m.is; shape = ap (λ (v : View). v.shape) m.is } in
    subst (λ (v : View). g.B.Beside.can c.args.beside.now v c.args.with.now) (sym c.new-memory.ensures)
    (laws.stays c.args.beside.now c.args.pass drew c.args.with.now same lasts c.requires.beside)

pub gather_crew-requires-clause-outside : goal.gather_crew-requires-clause-outside
gather_crew-requires-clause-outside g c =
    outside_acted c.new-memory.ensures c.call_all.ensures.outside.of c.work_beside.ensures.did c.into_pass-pass.ensures

pub gather_crew-requires-clause-spare : goal.gather_crew-requires-clause-spare
gather_crew-requires-clause-spare g c =
    let W = Worker g.row.T.Denot in
    let does = g.W.Work.does c.args.work.now in
    let ws : List W = c.in-Ok.crew.items in
    let vs : List W = c.work_beside.new.crew in
    let back : take c.in-Ok.crew.len (vs ++ drop (length vs) ws) ≡ vs =
    take_at vs (drop (length vs) ws) c.in-Ok.crew.len (c.work_beside.ensures.len ∙ c.as_mut_slice.ensures.len) in
    let z = zip_worked does ws c.as_mut_slice.result.now vs c.as_mut_slice.ensures.value c.work_beside.ensures.len c.work_beside.ensures.worked in
    subst (λ (us : List W). AllByRecursion (λ (w : W). IsSpare c.args.pool.now w.memory) us) (sym back)
    (spare_after does c.args.pool.now ws vs (spare_all c.args.pool.now c.args.pass ws c.requires.shares.outside.of c.in-Ok.ensures.called.workers) z)

pub returns-clause-works : goal.returns-clause-works
returns-clause-works g c =
    let T = g.row.T.Denot in
    let W = Worker T in
    let does = g.W.Work.does c.args.work.now in
    let ws : List W = c.in-Ok.crew.items in
    let vs : List W = c.work_beside.new.crew in
    let a = c.in-Ok.ensures.called in
    let back : take c.in-Ok.crew.len (vs ++ drop (length vs) ws) ≡ vs =
    take_at vs (drop (length vs) ws) c.in-Ok.crew.len (c.work_beside.ensures.len ∙ c.as_mut_slice.ensures.len) in
    let z = zip_worked does ws c.as_mut_slice.result.now vs c.as_mut_slice.ensures.value c.work_beside.ensures.len c.work_beside.ensures.worked in
    let acted = acted_as (g.B.Beside.does c.args.beside.now c.work_beside.new.beside c.args.with.now c.work_beside.new.with) c.work_beside.new.memory
    c.new-memory.ensures a.went c.work_beside.ensures.did in
    worked_beside does ws vs c.requires.shares.outside.no_number a z acted
    (subst (λ (us : List W). GatheredCrew c.work_beside.new.memory c.gather_crew.new.pass us) back
    (subst (λ (v : View). GatheredCrew v c.gather_crew.new.pass (take c.in-Ok.crew.len (vs ++ drop (length vs) ws))) c.into_pass-pass.ensures.same
    c.gather_crew.ensures.gathered))
    c.whole.ensures
    (c.gather_crew.ensures.tasks ∙ (ap (λ (ts : List T). ts ++ tasks_of (take c.in-Ok.crew.len (vs ++ drop (length vs) ws))) c.in-Ok.ensures.none
    ∙ ap (λ (us : List W). tasks_of us) back))
