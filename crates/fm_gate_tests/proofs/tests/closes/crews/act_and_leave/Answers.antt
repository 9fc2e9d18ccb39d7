use Rattle.fm_gate_tests.proofs.tests.closes.crews.act_and_leave.Goals as goal

pub leave-requires : goal.leave-requires
leave-requires c = record { id = c.args.a; inside = c.load-found.ensures.inside c.args.a (c.store.ensures.inside c.args.a c.requires.inside) }
