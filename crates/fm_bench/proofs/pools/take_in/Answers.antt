use Rattle.fm_bench.proofs.Working.{free_on}
use Rattle.fm_bench.proofs.pools.take_in.Goals as goal

pub returns : goal.returns
returns c =
    let law = c.a_crew_stands.ensures in
    let can = law.can_gather c.args.pool.now c.args.other c.requires.other.outside c.requires.other.nothing in
    free_on c.requires.free (law.at_gather c.args.pool.now _ _ _ c.requires.free.outside.of can c.gather.ensures).stands
