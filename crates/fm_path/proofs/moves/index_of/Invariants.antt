use Rattle.fm_path_meaning.proofs.Members.{IsSeeking}
use Rattle.fm_path.proofs.moves.index_of.Given as goal

abbrev pub invariant-loop-i : goal.invariant-loop-i
invariant-loop-i l = IsSeeking l.name l.i l.layout
