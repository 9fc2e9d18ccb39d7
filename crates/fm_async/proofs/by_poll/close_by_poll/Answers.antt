use Rattle.std.proofs.Common.{rules}
use Rattle.fm_async.proofs.{Closers.{begun_closing}, Ends.{closed_by}}
use Rattle.fm_async.proofs.by_poll.close_by_poll.Goals as goal

pub finish-borrow-requires-clause-is : goal.finish-borrow-requires-clause-is
finish-borrow-requires-clause-is g c = begun_closing c.in_ok-close.ensures

pub returns : goal.returns
returns g c = let h = closed_by c.in_ok-close.ensures c.finish-borrow.ensures.ends in search (rules, h)
