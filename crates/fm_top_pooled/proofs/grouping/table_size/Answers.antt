use Rattle.std.proofs.Common.{arith, refl}
use Rattle.fm_top_pooled.proofs.Tables.{short_table}
use Rattle.fm_top_pooled.proofs.grouping.table_size.Goals as goal

pub returns-clause-short : goal.returns-clause-short
returns-clause-short c =
    let power = c.next_power_of_two.ensures.power in
    let lower = c.next_power_of_two.ensures.lower_bound in
    let upper = c.next_power_of_two.ensures.upper_bound in
    let few = c.requires in
    let short = short_table (record { places = c.next_power_of_two.result; least = (power, lower, upper); size_is = refl }) few in
    omega (arith, short)
