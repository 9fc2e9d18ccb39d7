use Rattle.std.specs.Prelude.{◌≢◌, ◌/◌, ◌%◌}
use Rattle.fm_lanes.specs.Value.{kind_of}
use Rattle.fm_handle.{specs.Acts.{value_in}, proofs.Looking.{IsTrying}}
use Rattle.fm_handle.proofs.inside.exchange_inside.Given as goal

abbrev pub invariant-tries : goal.invariant-tries
invariant-tries g l =
    let view = g.M.Memory.view in
    IsTrying (view l.fn.m) (view l.m) l.fn.arena (l.place / 8) (λ now. value_in (kind_of l.v) l.order (l.place % 8) now ≢ l.expected) l.seen
