use Rattle.std.proofs.Common.{take}
use Rattle.fm_base.specs.Learnt.{AfterStores}
use Rattle.fm_base.proofs.memory.Memory.store_words.Given as goal

abbrev pub invariant-loop-k : goal.invariant-loop-k
invariant-loop-k g l = AfterStores (g.Self.Memory.view l.fn.self) (g.Self.Memory.view l.self) l.first (take l.k l.words)
