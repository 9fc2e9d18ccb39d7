use Rattle.std.proofs.Common.{take}
use Rattle.fm_base.specs.Learnt.{AfterLoads}
use Rattle.fm_base.proofs.memory.Memory.load_words.Given as goal

abbrev pub invariant-loop-k : goal.invariant-loop-k
invariant-loop-k g l = AfterLoads (g.Self.Memory.view l.fn.self) (g.Self.Memory.view l.self) l.first (take l.k l.words)
