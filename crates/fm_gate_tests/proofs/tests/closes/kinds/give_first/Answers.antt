use Rattle.fm_gate_tests.proofs.tests.closes.kinds.give_first.Goals as goal

pub returns : goal.returns
returns g c = record {
  outside = c.give_back.ensures.outside;
  handle = c.other_handles_last.ensures.own _ _ _ _ _ c.give_back.ensures c.requires.two c.requires.can.handle;
}
