use Rattle.std.proofs.Common.{ap, ◌∙◌, arith}
use Rattle.fm_group.specs.Table.{Counter}
use Rattle.fm_group.proofs.Acting.{claimed_there, found_there}
use Rattle.fm_group.proofs.table.CountTable.claim.Goals as goal

pub returns-then-found-eq0-clause-did : goal.returns-then-found-eq0-clause-did
returns-then-found-eq0-clause-did g c =
    let same = c.arena.ensures ∙ ap (λ (w : Counter). w.table.arena) c.self.view_is in
    let first = c.first.ensures.first ∙ ap (λ (w : Counter). w.table.first) c.self.view_is in
    claimed_there c.args.self.now c.arena.result tt same c.in_ok-enter.ensures.did c.args.ordinal c.args.place _ _ c.swap_if-found.result
    c.add.result (omega (arith, first)) (omega (arith, first)) c.if-found-eq0.true c.swap_if-found.ensures.did c.add.ensures.did c.leave.ensures.did

pub returns-clause-did : goal.returns-clause-did
returns-clause-did g c =
    let same = c.arena.ensures ∙ ap (λ (w : Counter). w.table.arena) c.self.view_is in
    let first = c.first.ensures.first ∙ ap (λ (w : Counter). w.table.first) c.self.view_is in
    found_there c.args.self.now c.arena.result tt same c.in_ok-enter.ensures.did c.leave-2.ensures.did c.args.ordinal c.args.place _
    c.swap_if-found.result (omega (arith, first)) c.if-found-eq0.false c.swap_if-found.ensures.did
