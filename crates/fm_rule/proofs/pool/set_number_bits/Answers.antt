use Rattle.std.proofs.Common.{rules}
use Rattle.fm_rule.proofs.Beginning.{more_numbers, numbers_within}
use Rattle.fm_rule.proofs.pool.set_number_bits.Goals as goal

pub index_mut-requires : goal.index_mut-requires
index_mut-requires c = search (rules, numbers_within c.loop-group.invariant c.groups-group-end.ensures c.loop-group-test.true c.number_bits_place.ensures, c.loop-group.words.len)

pub loop-group-preserved : goal.loop-group-preserved
loop-group-preserved c =
    more_numbers c.requires.valid c.groups-group-end.ensures c.loop-group-test.true c.number_bits_place.ensures c.first_numbers.ensures c.loop-group.invariant
