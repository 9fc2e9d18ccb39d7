use Rattle.std.proofs.Common.{◌-◌, ◌≤◌}
use Rattle.fm_base.specs.Learnt.{AfterStores}
use Rattle.fm_base_bytes.specs.Words.{words_from}
use Rattle.fm_segment_access.proofs.words.store_words.Given as goal

abbrev pub decreases-loop-k : goal.decreases-loop-k
decreases-loop-k g l = l.count - l.k

abbrev pub invariant-loop-k : goal.invariant-loop-k
invariant-loop-k g l = AfterStores (g.M.Memory.view l.fn.m) (g.M.Memory.view l.m) l.first (words_from l.k l.bytes) × (l.k ≤ l.count)
