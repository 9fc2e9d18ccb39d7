use Rattle.fm_close.specs.Sweeps.{PartsTaken}
use Rattle.fm_close.proofs.sweeping.take_pages_back.Given as goal

abbrev pub invariant-loop-part : goal.invariant-loop-part
invariant-loop-part l = PartsTaken l.fn.pass l.pass l.fn.id l.part
