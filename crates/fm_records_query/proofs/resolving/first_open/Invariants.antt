use Rattle.std.proofs.Common.{◌≡◌, drop}
use Rattle.fm_records_query.specs.Parsed.{open_from}
use Rattle.fm_records_query.proofs.resolving.first_open.Given as goal

abbrev pub invariant-loop-k : goal.invariant-loop-k
invariant-loop-k l = open_from 0 l.path ≡ open_from l.k (drop l.k l.path)
