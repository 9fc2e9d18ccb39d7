use Rattle.std.proofs.Common.{◌-◌, length}
use Rattle.fm_io.proofs.Appended.{IsWriting}
use Rattle.fm_io.proofs.writing.write_text.Given as goal

abbrev pub invariant-loop-taken : goal.invariant-loop-taken
invariant-loop-taken g l = IsWriting (g.O.Sink.view l.fn.out) (g.O.Sink.view l.out) l.text l.taken

abbrev pub decreases-loop-taken : goal.decreases-loop-taken
decreases-loop-taken g l = length l.text - l.taken
