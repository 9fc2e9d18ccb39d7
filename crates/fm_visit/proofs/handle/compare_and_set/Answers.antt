use Rattle.fm_segment.proofs.Exits.{gave}
use Rattle.fm_visit.proofs.Handles.{compared_set, not_compared}
use Rattle.fm_visit.proofs.handle.compare_and_set.Goals as goal

pub returns-in_err-found : goal.returns-in_err-found
returns-in_err-found g c =
    rw (gave c.from_residual.ensures.1) (not_compared c.args.handle.now c.args.base c.args.indices.now c.args.expected c.args.v c.in_err-found.ensures.exchanged)

pub returns : goal.returns
returns g c = compared_set c.args.handle.now c.args.base c.args.indices.now c.args.expected c.args.v c.is_same.ensures c.in_ok-found.ensures.exchanged
