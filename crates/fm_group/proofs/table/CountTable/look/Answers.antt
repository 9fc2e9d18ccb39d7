use Rattle.std.proofs.Common.{ap, ◌∙◌, arith}
use Rattle.fm_group.specs.Table.{Counter}
use Rattle.fm_group.proofs.Looking.{looked}
use Rattle.fm_group.proofs.table.CountTable.look.Goals as goal

pub returns-clause-did : goal.returns-clause-did
returns-clause-did g c =
    let same = c.arena.ensures ∙ ap (λ (w : Counter). w.table.arena) c.self.view_is in
    let first = c.first.ensures.first ∙ ap (λ (w : Counter). w.table.first) c.self.view_is in
    looked c.args.self.now c.arena.result same tt c.in_ok-enter.ensures.did c.args.run _ c.load_words.new.words (omega (arith, first))
    c.load_words.ensures c.leave.ensures.did
