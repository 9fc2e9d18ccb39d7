use Rattle.std.{proofs.Common.{take}, specs.List.{AllZip}}
use Rattle.fm_records_query.proofs.resolving.resolve_all.Given as goal

abbrev pub invariant-loop-k : goal.invariant-loop-k
invariant-loop-k g l = AllZip (g.W.Written.is_of l.layout) (take l.k l.written) l.found.items
