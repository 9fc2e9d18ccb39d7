use Rattle.std.proofs.Common.{subst}
use Rattle.fm_close.{specs.{declared.outcome.Visit.{Visit}, Learnt.{AfterVisit}}, proofs.Walks.{walk_starts, visit_last, walk_goes_on}}
use Rattle.fm_close.proofs.closing.walk.Goals as goal

pub loop-init : goal.loop-init
loop-init g c = walk_starts c.requires

pub returns-in-Ended : goal.returns-in-Ended
returns-in-Ended g c =
    let last = subst (λ (v : Visit). AfterVisit c.args.pool.now c.loop.pass c.visit.new.pass c.loop.s c.visit.new.s v) c.in-Ended.is c.visit.ensures in
    c.loop.invariant.onward _ _ (visit_last last)

pub loop-preserved : goal.loop-preserved
loop-preserved g c = walk_goes_on c.visit.result c.loop.invariant c.visit.ensures c.in_default.not-Ended
