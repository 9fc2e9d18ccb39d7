use Rattle.std.proofs.Common.{◌≡◌, ◌≤◌, take}
use Rattle.fm_async.specs.Sets.{closes_of, unfinished}
use Rattle.fm_async.proofs.waiting.count_unfinished.Given as goal

abbrev pub invariant-loop-waiting : goal.invariant-loop-waiting
invariant-loop-waiting l = (l.count ≡ unfinished (closes_of (take l.waiting-index l.closes))) × (l.count ≤ l.waiting-index)
