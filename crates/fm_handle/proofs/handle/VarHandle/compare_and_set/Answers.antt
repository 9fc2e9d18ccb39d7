use Rattle.fm_segment.proofs.Exits.{gave}
use Rattle.fm_handle.proofs.Learning.{after_compare, no_compare}
use Rattle.fm_handle.proofs.handle.VarHandle.compare_and_set.Goals as goal

pub returns-in_err-found : goal.returns-in_err-found
returns-in_err-found g c =
    rw (gave c.from_residual.ensures.1) (no_compare c.args.self.now c.args.base c.args.indices.now c.args.expected c.args.v c.in_err-found.ensures)

pub returns : goal.returns
returns g c = after_compare c.args.self.now c.args.base c.args.indices.now c.args.expected c.args.v c.is_same.ensures c.in_ok-found.ensures
