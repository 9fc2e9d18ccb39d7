use Rattle.fm_top_pooled.proofs.Shows.{keeps_history}
use Rattle.fm_top_pooled.proofs.finishing.finish.Goals as goal

pub take_apart-requires : goal.take_apart-requires
take_apart-requires c = record { of = c.requires.outside.of; whole = c.requires.whole; no_slot = c.requires.outside.no_slot }

pub returns : goal.returns
returns c = keeps_history c.requires.outside.of.1 c.requires.tidy c.take_apart.ensures
