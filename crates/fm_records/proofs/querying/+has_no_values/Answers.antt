-- A bound of 0 was found behind the first, or none.
use Rattle.fm_records.proofs.Reaching.{none_behind, some_before}
use Rattle.fm_records.proofs.querying.+has_no_values.Goals as goal

pub returns-else-dim-eq0-clause-none : goal.returns-else-dim-eq0-clause-none
returns-else-dim-eq0-clause-none t c = λ e. none_behind c.args.dims.now c.in-len1-up.len_at_least (c.has_no_values.ensures.none e)

pub returns-else-dim-eq0-clause-some : goal.returns-else-dim-eq0-clause-some
returns-else-dim-eq0-clause-some t c = λ e.
    some_before c.args.dims.now _ c.in-len1-up.len_at_least c.if-dim-eq0.false (c.has_no_values.ensures.some e)
