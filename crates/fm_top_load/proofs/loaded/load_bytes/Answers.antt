use Rattle.std.proofs.Common.{length, ap, arith}
use Rattle.fm_top_load.proofs.GivenBytes.{length-loaded}
use Rattle.fm_top_load.proofs.loaded.load_bytes.Goals as goal

pub returns-in-Ok-load_into-clause-short : goal.returns-in-Ok-load_into-clause-short
returns-in-Ok-load_into-clause-short g c =
    let loaded = c.in-Ok-load_into.ensures.loaded in
    omega (arith, ap length c.of.ensures, length-loaded loaded.ready, loaded.short)
