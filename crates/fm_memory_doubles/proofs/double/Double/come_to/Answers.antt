use Rattle.fm_base.proofs.Making.{Makes-none}
use Rattle.fm_memory_doubles.proofs.Beside.{visits, nothing_own}
use Rattle.fm_memory_doubles.proofs.double.Double.come_to.Goals as goal

pub invariant_of-self : goal.invariant_of-self
invariant_of-self g c =
    (visits c.args.word c.add-found.result c.in-Add.is c.self.invariant (rw (← c.self.view_is) at c.entered-a.ensures)
    (c.is_for_all.ensures c.if-is_for_all.true) c.add-found.ensures.did c.hear.ensures).keeps

pub returns-then-is_for_all-clause-makes : goal.returns-then-is_for_all-clause-makes
returns-then-is_for_all-clause-makes g c =
    rw (← c.self.view_is)
    (nothing_own
    (visits c.args.word c.add-found.result c.in-Add.is c.self.invariant (rw (← c.self.view_is) at c.entered-a.ensures)
    (c.is_for_all.ensures c.if-is_for_all.true) c.add-found.ensures.did c.hear.ensures).did)

pub returns-else-is_for_all-clause-makes : goal.returns-else-is_for_all-clause-makes
returns-else-is_for_all-clause-makes g c = rw (← c.self.view_is) (Makes-none _)

pub returns-else-rotate_right-eq1-clause-makes : goal.returns-else-rotate_right-eq1-clause-makes
returns-else-rotate_right-eq1-clause-makes g c = rw (← c.self.view_is) (Makes-none _)

pub returns-in_default-clause-makes : goal.returns-in_default-clause-makes
returns-in_default-clause-makes g c = rw (← c.self.view_is) (Makes-none _)
