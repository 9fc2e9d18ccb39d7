use Rattle.fm_pages.proofs.Looking.{Looking}
use Rattle.fm_pages.proofs.claiming.finds_none.Given as goal

abbrev pub invariant-loop-group : goal.invariant-loop-group
invariant-loop-group l = Looking l.pool l.fn.pass l.pass l.group
