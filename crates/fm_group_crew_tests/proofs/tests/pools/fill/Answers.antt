use Rattle.fm_group_crew.specs.Tasks.{known_later}
use Rattle.fm_group_crew_tests.proofs.tests.pools.fill.Goals as goal

pub loop-k-preserved : goal.loop-k-preserved
loop-k-preserved g c = record {
  outside = c.put.ensures.outside;
  known = known_later c.put.ensures.lasts c.loop-k.invariant.known;
  places = known_later c.put.ensures.lasts c.loop-k.invariant.places;
}
