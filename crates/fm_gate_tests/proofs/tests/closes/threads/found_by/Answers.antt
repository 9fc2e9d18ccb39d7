use Rattle.std.proofs.Common.{arith}
use Rattle.fm_gate_tests.proofs.tests.closes.threads.found_by.Goals as goal

pub word_of-requires-clause-ready : goal.word_of-requires-clause-ready
word_of-requires-clause-ready c =
    let stands = c.a_crew_stands.ensures.at_look c.args.pool.now _ _ _ c.whole-whole.ensures in
    record { outside = stands.outside c.requires.visit.outside; known = stands.lasts.known c.args.a c.requires.visit.known }

pub word_of-requires-clause-within : goal.word_of-requires-clause-within
word_of-requires-clause-within c =
    let more = (c.a_crew_stands.ensures.at_look c.args.pool.now _ _ _ c.whole-whole.ensures).lasts.given c.args.a in
    let given = c.requires.given in
    omega arith
