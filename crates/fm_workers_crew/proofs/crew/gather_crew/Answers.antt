use Rattle.std.proofs.{Common.{rules, refl, ◌++◌, List, [], ◌∷◌, sym, ap, ◌∙◌, subst, append_assoc}, lemmas.List.{append-nil}}
use Rattle.fm_rule_facts.specs.{Hands.{no_number}, Views.{View}}
use Rattle.fm_rule.specs.Draws.{Gathers}
use Rattle.fm_workers_crew.specs.{declared.worker.Worker.{Worker}, Rounds.{IsSpare, tasks_of}}
use Rattle.fm_workers_crew.proofs.Gathering.{gathered_none, gathered_more, can_gather, outside_gathered, middle, split_more}
use Rattle.fm_workers_crew.proofs.crew.gather_crew.Goals as goal

pub loop-worker-init : goal.loop-worker-init
loop-worker-init g c = record {
  done = [];
  split = sym (append-nil c.args.crew.items);
  gathered = gathered_none c.args.pass.now;
  outside = c.requires.outside;
  tasks = sym (append-nil c.args.tasks.now.items);
  count = refl;
  same_room = refl;
}

pub into_pass-requires : goal.into_pass-requires
into_pass-requires g c =
    let i = c.loop-worker.invariant in
    (middle (λ (w : Worker g.row.T.Denot). IsSpare c.args.pool.now w.memory) c.args.crew.items c.loop-worker.crew.items c.pop.new.self.items i.done
    c.in-Some.worker i.split c.in-Some.ensures.items c.requires.spare).outside

pub gather-requires-clause-other : goal.gather-requires-clause-other
gather-requires-clause-other g c =
    let i = c.loop-worker.invariant in
    let s : IsSpare c.args.pool.now c.in-Some.worker.memory =
    middle (λ (w : Worker g.row.T.Denot). IsSpare c.args.pool.now w.memory) c.args.crew.items c.loop-worker.crew.items c.pop.new.self.items i.done
    c.in-Some.worker i.split c.in-Some.ensures.items c.requires.spare in
    can_gather c.into_pass.ensures.same s (c.into_pass.ensures.outside c.args.pool.now s.of)

pub loop-worker-preserved : goal.loop-worker-preserved
loop-worker-preserved g c =
    let i = c.loop-worker.invariant in
    let w : Worker g.row.T.Denot = c.in-Some.worker in
    let s : IsSpare c.args.pool.now w.memory =
    middle (λ (u : Worker g.row.T.Denot). IsSpare c.args.pool.now u.memory) c.args.crew.items c.loop-worker.crew.items c.pop.new.self.items i.done
    w i.split c.in-Some.ensures.items c.requires.spare in
    let k : Gathers c.loop-worker.pass w.memory no_number c.gather.new.pass =
    subst (λ (d : View). Gathers c.loop-worker.pass d no_number c.gather.new.pass) c.into_pass.ensures.same c.gather.ensures in
    record {
      done = w ∷ i.done;
      split = split_more c.args.crew.items c.loop-worker.crew.items c.pop.new.self.items i.done w i.split c.in-Some.ensures.items;
      gathered = gathered_more i.gathered w c.requires.outside.no_number s.no_other (s.of.1 ∙ sym i.outside.of.1) k;
      outside = outside_gathered i.outside k;
      tasks = c.push_reserved.ensures.items ∙ (ap (λ (ts : List g.row.T.Denot). ts ++ w.task ∷ []) i.tasks
          ∙ append_assoc c.args.tasks.now.items (tasks_of i.done) (w.task ∷ []));
      count = search rules;
      same_room = search rules;
    }
