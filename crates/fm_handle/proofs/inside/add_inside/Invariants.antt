use Rattle.std.specs.Prelude.{◌/◌}
use Rattle.fm_handle.proofs.Looking.{IsTrying}
use Rattle.fm_handle.proofs.inside.add_inside.Given as goal

abbrev pub invariant-tries : goal.invariant-tries
invariant-tries g l =
    let view = g.M.Memory.view in
    IsTrying (view l.fn.m) (view l.m) l.fn.arena (l.place / 8) (λ now. ⊥) l.seen
