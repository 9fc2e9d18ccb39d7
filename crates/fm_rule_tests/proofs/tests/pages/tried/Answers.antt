use Rattle.std.proofs.Common.{refl}
use Rattle.fm_rule_tests.proofs.tests.pages.tried.Goals as goal

pub try_at-requires-clause-power : goal.try_at-requires-clause-power
unfolding lib.Count.ones
try_at-requires-clause-power g c = refl
