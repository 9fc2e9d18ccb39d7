use Rattle.fm_top_pooled.proofs.Groupings.{can_group_with, hands_groups, hands_read, only_wants}
use Rattle.fm_top_pooled.proofs.grouping.group.Goals as goal

pub group_with-found-requires-after_bounds : goal.group_with-found-requires-after_bounds
group_with-found-requires-after_bounds g c κs within =
    can_group_with c.requires.can c.args.threads c.requires.passes.crew.some c.requires.passes.crew.few

pub unless_wanting-requires : goal.unless_wanting-requires
unless_wanting-requires g c =
    only_wants c.requires.can c.group_with-found.result c.group_with-found.ensures.grouped c.requires.passes

pub returns-clause-value : goal.returns-clause-value
returns-clause-value g c =
    hands_groups c.requires.can c.unless_wanting.result c.group_with-found.ensures.grouped c.unless_wanting.ensures

pub returns-clause-read : goal.returns-clause-read
returns-clause-read g c =
    hands_read c.requires.can c.unless_wanting.result c.group_with-found.ensures.grouped c.unless_wanting.ensures
    c.group_with-found.ensures.outside
