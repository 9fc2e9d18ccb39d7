use Rattle.std.proofs.Common.{Some}
use Rattle.fm_async.specs.Borrows.{borrow_of}
use Rattle.fm_async.proofs.by_poll.close_by_poll.Given as goal

abbrev pub ghosts-finish : goal.ghosts-finish
ghosts-finish g a = record { start = Some (borrow_of a.pool.now a.borrow.pass a.close) }
