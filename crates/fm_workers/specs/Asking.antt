-- What is known is known later, so shares can be taken later too.
use Rattle.fm_segment.specs.{Region.{Region}, Access.{IsKnown}}
use Rattle.fm_rule_calls.specs.{Told.{view_of_pass}, Kept.{Lasts}}
use Rattle.std.proofs.Common.{le_trans}
use Rattle.fm_rule_facts.specs.Views.{View}
use Rattle.fm_workers_shares.specs.Taking.{KnowsOn}

pub known_later : {v w : View} {s : Region} → Lasts v w → IsKnown (view_of_pass v) s → IsKnown (view_of_pass w) s
known_later {s = s} l k = record { arena = l.known s.arena k.arena; given = le_trans k.given (l.given s.arena) }

pub knows_later : {v w : View} → Lasts v w → KnowsOn (view_of_pass v) (view_of_pass w)
knows_later l s k = known_later l k
