use Rattle.std.proofs.Common.{◌≡◌, ◌+◌, ◌≤◌, ap, subst, arith, IfOk}
use Rattle.fm_rule_facts.specs.Views.{given_of}
use Rattle.fm_gate.specs.Needs.{IsInside}
use Rattle.fm_group_crew.specs.Tasks.{known_later}
use Rattle.fm_rule_calls.proofs.Lasting.{lasts_then}
use Rattle.fm_group_crew_tests.proofs.tests.pools.put.Goals as goal

pub store-requires : goal.store-requires
store-requires g c =
    let inside = subst (λ r. IfOk r (λ u. IsInside c.args.pool.now c.enter.new.pass c.arena.result)) c.expect.ensures c.enter.ensures.inside in
    let known = known_later c.enter.ensures.lasts c.requires.known in
    let given : c.args.s.now.first + c.args.s.now.size ≤ given_of c.enter.new.pass c.args.s.now.arena = known.given in
    let here : given_of c.enter.new.pass c.arena.result ≡ given_of c.enter.new.pass c.args.s.now.arena = ap (given_of c.enter.new.pass) c.arena.ensures in
    let within = c.requires.within in
    record { id = c.arena.result; inside = inside; given = omega (arith, given, here, within) }

pub returns-clause-lasts : goal.returns-clause-lasts
returns-clause-lasts g c = lasts_then c.enter.ensures.lasts (lasts_then c.store.ensures.lasts c.leave.ensures.lasts)
