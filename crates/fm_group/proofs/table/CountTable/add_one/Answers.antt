use Rattle.std.proofs.Common.{ap, ◌∙◌, arith}
use Rattle.fm_group.specs.Table.{Counter}
use Rattle.fm_group.proofs.Acting.{added_one}
use Rattle.fm_group.proofs.table.CountTable.add_one.Goals as goal

pub returns-clause-did : goal.returns-clause-did
returns-clause-did g c =
    let same = c.arena.ensures ∙ ap (λ (w : Counter). w.table.arena) c.self.view_is in
    let first = c.first.ensures.first ∙ ap (λ (w : Counter). w.table.first) c.self.view_is in
    added_one c.args.self.now c.arena.result tt same c.in_ok-enter.ensures.did c.leave.ensures.did c.args.place _ c.add.result
    (omega (arith, first)) c.add.ensures.did
