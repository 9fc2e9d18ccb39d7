use Rattle.std.proofs.Common.{◌-◌, ◌≤◌}
use Rattle.fm_base.specs.Learnt.{AfterStores}
use Rattle.fm_base_bytes.specs.Words.{words_from}
use Rattle.fm_mono.specs.Shown.{view_of}
use Rattle.fm_c_calls.proofs.held.store.Given as goal

abbrev pub decreases-loop-k : goal.decreases-loop-k
decreases-loop-k l = l.count - l.k

abbrev pub invariant-loop-k : goal.invariant-loop-k
invariant-loop-k l = AfterStores (view_of l.fn.memory) (view_of l.memory) l.first (words_from l.k l.bytes) × (l.k ≤ l.count)
