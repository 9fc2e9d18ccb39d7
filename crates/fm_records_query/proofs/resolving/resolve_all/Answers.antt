-- Each is resolved in its turn.
use Rattle.std.{proofs.{Common.{inr, refl, subst}, lemmas.{List.{take_all}, Result.{IfOk-from_err}}}, specs.List.{AllZip}}
use Rattle.fm_records_query.proofs.Plans.{zip_more, refused_or, passed_on}
use Rattle.fm_records_query.proofs.resolving.resolve_all.Goals as goal

pub returns-in_err-one-clause-refused : goal.returns-in_err-one-clause-refused
returns-in_err-one-clause-refused g c =
    passed_on _ _ _ c.from_residual.ensures.1 (refused_or (g.W.Written.is_of c.args.layout.now) (g.W.Written.is_refused c.args.layout.now) _ _ _ _ _
    c.loop-k.invariant c.loop-k-test.true c.index-written-k.is c.in_err-one.ensures.refused)

pub loop-k-preserved : goal.loop-k-preserved
loop-k-preserved g c =
    zip_more (g.W.Written.is_of c.args.layout.now) _ _ _ _ _ _ c.loop-k.invariant c.loop-k-test.true c.index-written-k.is c.in_ok-one.ensures.resolved
    c.in_ok-found.ensures

pub returns-in_err-one-clause-resolved : goal.returns-in_err-one-clause-resolved
returns-in_err-one-clause-resolved g c =
    IfOk-from_err c.from_residual.result (λ found. AllZip (g.W.Written.is_of c.args.layout.now) c.args.written.now found.items) c.from_residual.ensures.0

pub returns-in_err-found-clause-resolved : goal.returns-in_err-found-clause-resolved
returns-in_err-found-clause-resolved g c =
    IfOk-from_err c.from_residual-in_err-found.result (λ found. AllZip (g.W.Written.is_of c.args.layout.now) c.args.written.now found.items)
    c.from_residual-in_err-found.ensures.0

pub returns-in_err-found-clause-refused : goal.returns-in_err-found-clause-refused
returns-in_err-found-clause-refused g c = passed_on _ _ _ c.from_residual-in_err-found.ensures.1 (inr refl)

pub returns-clause-resolved : goal.returns-clause-resolved
returns-clause-resolved g c =
    subst (λ written. AllZip (g.W.Written.is_of c.args.layout.now) written c.loop-k.found.items)
    (take_all c.loop-k.k c.args.written.now c.loop-k-test.false) c.loop-k.invariant
