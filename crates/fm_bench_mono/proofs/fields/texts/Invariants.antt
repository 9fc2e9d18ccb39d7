use Rattle.std.proofs.Common.{◌≡◌}
use Rattle.fm_bench_mono.proofs.fields.texts.Given as goal

abbrev pub invariant-loop-k : goal.invariant-loop-k
invariant-loop-k g l = (l.loaded ≡ l.initial.loaded)
