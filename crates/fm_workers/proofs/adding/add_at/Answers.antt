use Rattle.std.proofs.Common.{◌+◌, ◌/◌, ap}
use Rattle.fm_workers.proofs.Increments.{none_added, not_added, one_added, reaches_count}
use Rattle.fm_workers.proofs.adding.add_at.Goals as goal

pub returns-then-n-eq0-clause-did : goal.returns-then-n-eq0-clause-did
returns-then-n-eq0-clause-did g c = none_added (g.M.Memory.view c.args.m.now) c.args.shared.now c.args.place c.args.n c.if-n-eq0.true

pub returns-in-Err-clause-did : goal.returns-in-Err-clause-did
returns-in-Err-clause-did g c =
    let v = g.M.Memory.view in
    not_added (v c.args.m.now) (v c.enter.new.self) c.args.shared.now c.args.place c.args.n c.arena.result c.in-Err.refusal c.arena.ensures
    c.requires.can.may c.in-Err.ensures.did

pub add-requires : goal.add-requires
add-requires g c =
    let v = g.M.Memory.view in
    reaches_count (v c.args.m.now) (v c.enter.new.self) c.args.shared.now c.args.place c.arena.result _ c.in-Ok.field-0 c.requires.can c.requires.within
    c.arena.ensures (ap (λ n. n / 8 + c.args.place) c.first.ensures.first) c.in-Ok.ensures.did

pub returns-clause-did : goal.returns-clause-did
returns-clause-did g c =
    let v = g.M.Memory.view in
    one_added (v c.args.m.now) (v c.enter.new.self) (v c.add.new.self) (v c.leave.new.self) c.args.shared.now c.args.place c.args.n c.add.result
    c.arena.result _ c.in-Ok.field-0 c.arena.ensures (ap (λ n. n / 8 + c.args.place) c.first.ensures.first) c.in-Ok.ensures.did c.add.ensures.did
    c.leave.ensures.did c.if-n-eq0.false
