use Rattle.fm_base.proofs.Making.{Makes-none}
use Rattle.fm_memory_doubles.proofs.Beside.{shuts, nothing_own}
use Rattle.fm_memory_doubles.proofs.double.Double.come_before.Goals as goal

pub invariant_of-self : goal.invariant_of-self
invariant_of-self g c =
    (shuts c.args.id c.end-answer.result c.in-Close.is c.self.invariant (rw (← c.self.view_is) at c.requires).outside
    (c.is_for_all.ensures c.if-is_for_all.true) c.end-answer.ensures.did c.end-answer.ensures.outside c.hear.ensures).keeps

pub returns-then-is_for_all-clause-makes : goal.returns-then-is_for_all-clause-makes
returns-then-is_for_all-clause-makes g c =
    rw (← c.self.view_is)
    (nothing_own
    (shuts c.args.id c.end-answer.result c.in-Close.is c.self.invariant (rw (← c.self.view_is) at c.requires).outside
    (c.is_for_all.ensures c.if-is_for_all.true) c.end-answer.ensures.did c.end-answer.ensures.outside c.hear.ensures).did)

pub returns-else-is_for_all-clause-makes : goal.returns-else-is_for_all-clause-makes
returns-else-is_for_all-clause-makes g c = rw (← c.self.view_is) (Makes-none _)

pub returns-else-self-left-clause-makes : goal.returns-else-self-left-clause-makes
returns-else-self-left-clause-makes g c = rw (← c.self.view_is) (Makes-none _)

pub returns-in_default-clause-makes : goal.returns-in_default-clause-makes
returns-in_default-clause-makes g c = rw (← c.self.view_is) (Makes-none _)
