use Rattle.fm_top.proofs.DemoQueries.{only_memory}
use Rattle.fm_top.proofs.outcome.demo.make_query.Goals as goal

pub unless_wanting-requires : goal.unless_wanting-requires
unless_wanting-requires c = only_memory c.parse_query.result c.requires.query c.parse_query.ensures.refused
