use Rattle.std.{proofs.{Common.{◌≡◌, ◌++◌, List, length, take, drop, sym, ◌∙◌, subst, None}, lemmas.List.{take_at}}}
use Rattle.std.proofs.lemmas.List.Elements.{All-same, All-from_recursion, recursion_from_All}
use Rattle.fm_rule_facts.specs.Views.{View}
use Rattle.fm_workers_crew.{specs.{declared.worker.Worker.{Worker}, Rounds.{RanCrew, tasks_of}}, proofs.Turning.{tasks_called}}
use Rattle.fm_workers_crew.proofs.{Workers.{ready_all, spare_all, spare_after}, Working.{zip_worked}}
use Rattle.fm_workers_crew.proofs.crew.run_crew.Goals as goal

pub work_all-requires-after_bounds : goal.work_all-requires-after_bounds
work_all-requires-after_bounds g c κs within =
    let T = g.row.T.Denot in
    let W = Worker T in
    let laws = g.met.W.Work g.world.𝓛 g.world.𝓜 g.world.𝓡 ((λ s x. x), (λ x. x), (λ x. x), λ x. x) in
    let p = c.args.pass.now in
    let can : View → T → Type 0 = g.W.Work.can c.args.work.now in
    let ready : W → Type 0 = λ w. (w.memory.inside ≡ None) × g.W.Work.can c.args.work.now w.memory w.task in
    let ws : List W = c.in-Ok.crew.items in
    let a = c.in-Ok.ensures.called in
    let all = recursion_from_All (can p) (tasks_of ws) (All-same (can p) (tasks_of ws) c.args.tasks.now.items (sym (tasks_called a)) c.requires.can) in
    All-same ready c.as_mut_slice.result.now ws c.as_mut_slice.ensures.value
    (All-from_recursion ready ws (ready_all (g.W.Work.can c.args.work.now) (laws.stays c.args.work.now) p ws a.workers all))

pub returns-clause-ran : goal.returns-clause-ran
returns-clause-ran g c =
    let T = g.row.T.Denot in
    let W = Worker T in
    let does = g.W.Work.does c.args.work.now in
    let p = c.args.pass.now in
    let pool = c.args.pool.now in
    let ws : List W = c.in-Ok.crew.items in
    let vs : List W = c.work_all.new.crew in
    let called = c.in-Ok.ensures.called in
    let back : take c.in-Ok.crew.len (vs ++ drop (length vs) ws) ≡ vs =
    take_at vs (drop (length vs) ws) c.in-Ok.crew.len (c.work_all.ensures.len ∙ c.as_mut_slice.ensures.len) in
    let z = zip_worked does ws c.as_mut_slice.result.now vs c.as_mut_slice.ensures.value c.work_all.ensures.len c.work_all.ensures.worked in
    subst (λ (us : List W). RanCrew does pool p c.call_all.new.pass c.args.tasks.now.items us) (sym back) (record {
      drawn = ws;
      called = called;
      worked = z;
      spare = spare_after does pool ws vs (spare_all pool p ws c.requires.outside.of called.workers) z;
    })
