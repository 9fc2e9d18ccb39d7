use Rattle.fm_close.proofs.Walks.{Walking}
use Rattle.fm_close.proofs.closing.walk.Given as goal

abbrev pub invariant-loop : goal.invariant-loop
invariant-loop g l = Walking l.pool l.fn.pass l.pass l.fn.s l.s
