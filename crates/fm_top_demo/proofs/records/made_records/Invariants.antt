use Rattle.std.proofs.Common.{◌≡◌}
use Rattle.fm_top_demo.specs.Records.{made_records}
use Rattle.fm_top_demo.proofs.records.made_records.Given as goal

abbrev pub invariant-loop-k : goal.invariant-loop-k
invariant-loop-k l = l.bytes.items ≡ made_records l.k
