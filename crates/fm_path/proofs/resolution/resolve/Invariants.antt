use Rattle.fm_path_meaning.{specs.Walk.{move}, proofs.Walking.{IsOnWay}}
use Rattle.fm_path.proofs.resolution.resolve.Given as goal

abbrev pub invariant-loop-k : goal.invariant-loop-k
invariant-loop-k l = IsOnWay move l.path l.layout l.k l.offset l.dims l.here
