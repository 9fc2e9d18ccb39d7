use Rattle.std.proofs.Common.{◌≡◌, ◌≤◌, vec_len, vec_capacity}
use Rattle.fm_workers_shares.specs.Batches.{nones}
use Rattle.fm_workers_shares.proofs.slots.Slots.new.Given as goal

abbrev pub invariant-loop : goal.invariant-loop
invariant-loop l = record {
  slots : l.slots.items ≡ nones l.counter;
  len : vec_len l.slots ≡ l.counter;
  room : l.count ≤ vec_capacity l.slots;
}
