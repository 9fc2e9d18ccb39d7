use Rattle.std.proofs.Common.{◌≡◌, ◌+◌, ◌++◌, List, vec_len, vec_capacity}
use Rattle.fm_gate.specs.Needs.{IsOutside}
use Rattle.fm_workers_crew.specs.{declared.worker.Worker.{Worker}, Rounds.{GatheredCrew, tasks_of}}
use Rattle.fm_workers_crew.proofs.crew.gather_crew.Given as goal

abbrev pub invariant-loop-worker : goal.invariant-loop-worker
invariant-loop-worker g l = record {
  done : List (Worker g.row.T.Denot);
  split : l.fn.crew.items ≡ l.crew.items ++ done;
  gathered : GatheredCrew l.fn.pass l.pass done;
  outside : IsOutside l.pool l.pass;
  tasks : l.tasks.items ≡ l.fn.tasks.items ++ tasks_of done;
  count : vec_len l.tasks + vec_len l.crew ≡ vec_len l.fn.tasks + vec_len l.fn.crew;
  same_room : vec_capacity l.tasks ≡ vec_capacity l.fn.tasks;
}

abbrev pub decreases-loop-worker : goal.decreases-loop-worker
decreases-loop-worker g l = goal.left-loop-worker g l
