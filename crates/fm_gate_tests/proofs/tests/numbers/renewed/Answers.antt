use Rattle.fm_gate_tests.proofs.tests.numbers.renewed.Goals as goal

pub drawn-requires : goal.drawn-requires
drawn-requires g c = record { outside = c.takes_in.ensures.stands.outside c.requires.walk.outside }

pub returns-clause-walk : goal.returns-clause-walk
returns-clause-walk g c =
    let on = c.a_close_lasts.ensures.beside.onward in
    record {
      outside = c.drawn.ensures.giver.outside (c.takes_in.ensures.stands.outside c.requires.walk.outside);
      walks = on c.args.pool.now _ _ c.args.s.now c.drawn.ensures.giver (on c.args.pool.now _ _ c.args.s.now c.takes_in.ensures.stands c.requires.walk.walks);
    }

pub returns-clause-visit : goal.returns-clause-visit
returns-clause-visit g c = record {
  outside = c.drawn.ensures.outside;
  known = c.drawn.ensures.lasts.known c.args.s.now.arena (c.takes_in.ensures.stands.lasts.known c.args.s.now.arena c.requires.walk.walks.known);
}
