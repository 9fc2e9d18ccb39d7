use Rattle.fm_handle.proofs.Looking.{trying_begins, still_reaches, trying_goes_on, add_hits}
use Rattle.fm_handle.proofs.inside.add_inside.Goals as goal

pub tries-init : goal.tries-init
tries-init g c = trying_begins c.requires.inside c.load-seen.ensures.inside c.load-seen.ensures.did

pub swap_if-found-requires : goal.swap_if-found-requires
swap_if-found-requires g c = still_reaches c.args.place c.tries.invariant c.requires.given

pub tries-preserved : goal.tries-preserved
tries-preserved g c = trying_goes_on _ _ c.tries.invariant c.swap_if-found.ensures.did c.swap_if-found.ensures.inside c.if-found-seen.false

pub returns-then-found-seen-clause-did : goal.returns-then-found-seen-clause-did
returns-then-found-seen-clause-did g c =
    add_hits c.tries.invariant c.if-found-seen.true c.swap_if-found.ensures.did (rw c.sum_of.ensures at c.with_value-after.ensures)
    (rw c.kind.ensures at c.value_in-before.ensures.value)
