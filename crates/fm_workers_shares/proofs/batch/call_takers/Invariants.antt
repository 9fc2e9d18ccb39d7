use Rattle.std.{proofs.Common.{◌≡◌, ◌≤◌, length, map, vec_capacity}, specs.List.{AllByRecursion, range_with_len}}
use Rattle.fm_workers_jobs.specs.Turns.{HasAccount, account_of}
use Rattle.fm_workers_shares.specs.{Batches.{after_turns}, Taking.{IsReady}}
use Rattle.fm_workers_shares.proofs.batch.call_takers.Given as goal

abbrev pub invariant-loop-k : goal.invariant-loop-k
invariant-loop-k g l = record {
  ready : AllByRecursion (IsReady (g.J.Job.making l.job) l.jobs) l.takers.items;
  count : length l.takers.items ≡ l.k;
  numbers : map (λ t. t.number) l.takers.items ≡ range_with_len 1 l.k;
  giver : HasAccount l.jobs l.giver (after_turns (account_of l.fn.giver) l.k);
  room : l.count ≤ vec_capacity l.takers;
}
