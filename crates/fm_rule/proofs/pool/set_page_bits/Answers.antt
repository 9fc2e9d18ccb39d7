use Rattle.std.proofs.Common.{rules}
use Rattle.fm_rule.proofs.Beginning.{more_pages, pages_within}
use Rattle.fm_rule.proofs.pool.set_page_bits.Goals as goal

pub index_mut-requires : goal.index_mut-requires
index_mut-requires c = search (rules, pages_within c.loop-group.invariant c.page_groups-group-end.ensures c.loop-group-test.true c.page_bits_place.ensures, c.loop-group.words.len)

pub loop-group-preserved : goal.loop-group-preserved
loop-group-preserved c =
    more_pages c.requires.valid c.page_groups-group-end.ensures c.loop-group-test.true c.page_bits_place.ensures c.group_ones.ensures c.loop-group.invariant
