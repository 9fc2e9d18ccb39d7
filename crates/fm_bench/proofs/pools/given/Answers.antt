use Rattle.fm_bench.proofs.Working.{free_after, free_then}
use Rattle.fm_bench.proofs.pools.given.Goals as goal

pub returns-in_err-allocate-clause-free : goal.returns-in_err-allocate-clause-free
returns-in_err-allocate-clause-free g c =
    let opened = c.open_arena.ensures in
    let given = c.allocate.ensures in
    let first = free_after c.requires opened.outside opened.did.rest opened.lasts in
    free_then first (free_after first.free given.outside given.did.rest given.lasts)

pub returns-clause-free : goal.returns-clause-free
returns-clause-free g c =
    let opened = c.open_arena.ensures in
    let given = c.allocate.ensures in
    let first = free_after c.requires opened.outside opened.did.rest opened.lasts in
    free_then first (free_after first.free given.outside given.did.rest given.lasts)
