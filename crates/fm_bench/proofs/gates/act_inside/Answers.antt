use Rattle.fm_bench.proofs.Working.{nothing_stays}
use Rattle.fm_bench.proofs.gates.act_inside.Goals as goal

pub returns-in-Load-clause-nothing : goal.returns-in-Load-clause-nothing
returns-in-Load-clause-nothing c = nothing_stays c.load.ensures.did.rest c.requires.nothing

pub returns-in-Add-clause-nothing : goal.returns-in-Add-clause-nothing
returns-in-Add-clause-nothing c = nothing_stays c.add.ensures.did.rest c.requires.nothing
