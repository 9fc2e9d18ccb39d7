use Rattle.fm_gate_tests.proofs.tests.gates.kinds.+take_handles.Given as goal

abbrev pub decreases-take_handles : goal.decreases-take_handles
decreases-take_handles g l = l.times
