use Rattle.std.proofs.{Common.{rules, ◌≡◌, ◌++◌, List, refl, replicate, sym, ap, ◌∙◌, subst}, lemmas.List.{append-nil}}
use Rattle.fm_rule.specs.Draws.{Drawn}
use Rattle.fm_workers_crew.specs.{declared.worker.Worker.{Worker}, Rounds.{DrewCrew, tasks_of}}
use Rattle.fm_workers_crew.proofs.Drawing.{drew_nobody, drew_more, refused_draws, tasks_moved, outside_drew, shares_new}
use Rattle.fm_workers_crew.proofs.crew.draw_crew.Goals as goal

pub loop-task-init : goal.loop-task-init
loop-task-init g c =
    let W = Worker g.row.T.Denot in
    let p = c.args.pass.now in
    let ts = c.args.tasks.now.items in
    record {
      drew = subst (λ (ws : List W). DrewCrew p p ws) (sym c.requires.empty) (drew_nobody p);
      outside = c.requires.outside;
      parts = subst (λ (ws : List W). ts ≡ ts ++ tasks_of ws) (sym c.requires.empty) (sym (append-nil ts));
      room = search rules;
      count = search rules;
    }

pub new-requires : goal.new-requires
new-requires g c = shares_new c.loop-task.invariant.outside c.in-Ok.ensures.drawn

pub loop-task-preserved : goal.loop-task-preserved
loop-task-preserved g c =
    let i = c.loop-task.invariant in
    let w : Worker g.row.T.Denot = record { memory = c.new.result; task = c.in-Some.task; gap = replicate 16 0 } in
    record {
      drew = drew_more {vs = c.push_reserved.new.self.items} w c.requires.outside.no_number i.drew c.push_reserved.ensures.items
          (subst (λ d. Drawn c.loop-task.pass c.draw.new.giver d) (sym c.new.ensures) c.in-Ok.ensures.drawn);
      outside = outside_drew i.outside c.in-Ok.ensures.drawn;
      parts = tasks_moved c.args.tasks.now.items c.loop-task.tasks.items c.pop.new.self.items c.in-Some.task c.loop-task.crew.items
          c.push_reserved.new.self.items w i.parts c.in-Some.ensures.items c.push_reserved.ensures.items refl;
      room = search rules;
      count = search rules;
    }

pub returns-in-Err-clause-drew : goal.returns-in-Err-clause-drew
returns-in-Err-clause-drew g c =
    let i = c.loop-task.invariant in
    refused_draws c.pop.new.self.items c.in-Some.task c.in-Err.refusal c.requires.outside.no_number i.drew c.in-Err.ensures.no_pass
    (i.parts ∙ ap (λ ts. ts ++ tasks_of c.loop-task.crew.items) (c.in-Some.ensures.items ∙ sym {A = List g.row.T.Denot} c.push_reserved-in-Err.ensures.items))
    c.push_reserved-in-Err.ensures.items
