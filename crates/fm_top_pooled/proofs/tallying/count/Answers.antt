use Rattle.fm_top_pooled.proofs.Tallies.{can_tally, hands_asked, hands_counts, only_wants}
use Rattle.fm_top_pooled.proofs.tallying.count.Goals as goal

pub tally_with-found-requires-after_bounds : goal.tally_with-found-requires-after_bounds
tally_with-found-requires-after_bounds g c κs within =
    can_tally c.args.q.now c.args.threads c.requires.can.stocked c.requires.can.beside c.requires.passes.crew.some c.requires.passes.crew.few

pub unless_wanting-requires : goal.unless_wanting-requires
unless_wanting-requires g c =
    only_wants c.requires.can.stocked c.requires.can.beside (c.tally_with-found.ensures.tallied.still_sound c.requires.can.stocked.sound)
    c.tally_with-found.result c.tally_with-found.ensures.tallied c.requires.can.tally c.requires.can.even c.requires.passes

pub returns-clause-value : goal.returns-clause-value
returns-clause-value g c =
    hands_counts c.requires.can.stocked c.requires.can.beside (c.tally_with-found.ensures.tallied.still_sound c.requires.can.stocked.sound) c.unless_wanting.result
    c.tally_with-found.ensures.tallied c.unless_wanting.ensures

pub returns-clause-asked : goal.returns-clause-asked
returns-clause-asked g c =
    hands_asked c.requires.can.stocked c.requires.can.beside (c.tally_with-found.ensures.tallied.still_sound c.requires.can.stocked.sound) c.unless_wanting.result
    c.tally_with-found.ensures.tallied c.unless_wanting.ensures c.tally_with-found.ensures.outside
