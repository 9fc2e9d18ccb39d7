use Rattle.std.specs.Io.KnownBytes.{Keeps}
use Rattle.fm_io.proofs.host_system.read_uninterrupted.Given as goal

-- reads that were interrupted took no byte
abbrev pub invariant-loop : goal.invariant-loop
invariant-loop g l = Keeps (g.F.Read.remaining l.fn.file) (g.F.Read.remaining l.file)
