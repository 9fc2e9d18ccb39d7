-- The pass over the path is the definition's walk; the place it comes to is the one that following finds.
use Rattle.std.proofs.{Common.{subst, sym, arith}, lemmas.Result.{err_from_is_err_and}}
use Rattle.fm_path_meaning.{specs.Walk.{move}, proofs.Walking.{on_way_more, on_way_err, on_way_leads, leads_end, refused}}
use Rattle.fm_path.{specs.Resolution.{IsResolved, at_step, no_value, no_memory}, proofs.Resolving.{stays_inside, is_resolved}}
use Rattle.fm_path.proofs.resolution.resolve.Goals as goal

pub returns-in_err-moved-clause-refused : goal.returns-in_err-moved-clause-refused
returns-in_err-moved-clause-refused c =
    let p = err_from_is_err_and c.from_residual.result c.from_residual.ensures.1 in
    rw (p.1, p.2) (at_step c.in_err-moved.field-0.0
    (refused c.args.path.now c.args.layout.now _
    (on_way_err move _ _ _ _ _ _ c.index-path-k.result c.in_err-moved.field-0.0 c.loop-k.invariant c.loop-k-test.true c.index-path-k.is
    c.in_err-moved.ensures)))

pub loop-k-preserved : goal.loop-k-preserved
loop-k-preserved c =
    on_way_more move _ _ _ _ _ _ c.index-path-k.result (record { by = c.in_ok-moved.moved.by; dim = c.in_ok-moved.moved.dim; to = c.in_ok-moved.moved.to.now })
    _ _ c.loop-k.invariant c.loop-k-test.true c.index-path-k.is c.in_ok-moved.ensures (omega (arith, c.saturating_add-offset.ensures)) c.in_ok-add.ensures

pub of-requires : goal.of-requires
of-requires c =
    stays_inside _ _ _ _ _ _ _ _ c.size-root_size.ensures.well_formed (on_way_leads _ _ _ _ _ _ c.loop-k.invariant c.loop-k-test.false) c.in-Some.ensures
    c.size-root_size.ensures.size c.alignment.ensures.alignment

pub returns-in-Some-clause-resolved : goal.returns-in-Some-clause-resolved
returns-in-Some-clause-resolved c =
    subst (IsResolved c.args.path.now c.args.layout.now) (sym c.of.ensures)
    (is_resolved _ _ _ _ _ _ _ _ c.size-root_size.ensures.well_formed (on_way_leads _ _ _ _ _ _ c.loop-k.invariant c.loop-k-test.false) c.in-Some.ensures
    c.size-root_size.ensures.size c.alignment.ensures.alignment)

pub returns-in-None-clause-refused : goal.returns-in-None-clause-refused
returns-in-None-clause-refused c =
    let l = on_way_leads _ _ _ _ _ _ c.loop-k.invariant c.loop-k-test.false in
    no_value (record { last = c.loop-k.here.now; ends = leads_end _ _ _ _ _ l; no_value = c.in-None.ensures })

pub returns-in_err-add-clause-refused : goal.returns-in_err-add-clause-refused
returns-in_err-add-clause-refused c = let p = err_from_is_err_and c.from_residual-in_err-add.result c.from_residual-in_err-add.ensures.1 in
    rw (p.1, p.2) no_memory
