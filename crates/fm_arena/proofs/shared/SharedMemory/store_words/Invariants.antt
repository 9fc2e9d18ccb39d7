use Rattle.std.proofs.Common.{◌-◌, ◌≤◌, length, take}
use Rattle.fm_base.specs.Learnt.{AfterStores}
use Rattle.fm_rule_calls.specs.Told.{view_of_pass}
use Rattle.fm_arena.proofs.shared.SharedMemory.store_words.Given as goal

abbrev pub invariant-loop-k : goal.invariant-loop-k
invariant-loop-k l = AfterStores (view_of_pass l.fn.self) (view_of_pass l.self) l.first (take l.k l.words) × (l.k ≤ length l.words)

abbrev pub decreases-loop-k : goal.decreases-loop-k
decreases-loop-k l = length l.words - l.k
