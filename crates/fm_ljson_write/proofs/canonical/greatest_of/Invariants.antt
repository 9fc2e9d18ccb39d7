use Rattle.fm_ljson_write.proofs.Rest.{IsRising}
use Rattle.fm_ljson_write.proofs.canonical.greatest_of.Given as goal

abbrev pub invariant-loop-i : goal.invariant-loop-i
invariant-loop-i l = IsRising l.greatest l.i l.layout
