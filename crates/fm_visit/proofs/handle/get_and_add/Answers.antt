use Rattle.std.proofs.Common.{sym, ap, ◌∙◌}
use Rattle.fm_segment.proofs.Exits.{gave}
use Rattle.fm_lanes.specs.Value.{kind_of}
use Rattle.fm_segment_access.proofs.Values.{kind_of-decoded}
use Rattle.fm_handle.specs.{Acts.{Adds}, Alone.{AddsValue}, Place.{can_update}}
use Rattle.fm_visit.proofs.{Handles.{acted_inside, fits_word, not_updated, updated, value_given}, Updating.{add_alone}}
use Rattle.fm_visit.proofs.handle.get_and_add.Goals as goal

pub returns-in_err-place-clause-added : goal.returns-in_err-place-clause-added
returns-in_err-place-clause-added g c =
    let h = c.args.handle.now in
    let s = c.args.s.now in
    rw (gave c.from_residual.ensures.1) (not_updated c.args.base c.requires.call can_update
    (λ place. Adds h.value.order s.arena place c.args.delta)
    (λ place found. AddsValue (g.M.Memory.view c.args.m.now) (g.M.Memory.view c.args.m.now) h.value s.arena place c.args.delta found)
    (sym c.in_err-place.ensures.finds.place))

pub add_inside-requires-clause-inside : goal.add_inside-requires-clause-inside
add_inside-requires-clause-inside g c = rw c.arena.ensures c.requires.call.inside.inside

pub add_inside-requires-clause-given : goal.add_inside-requires-clause-given
add_inside-requires-clause-given g c = rw c.arena.ensures (value_given c.requires.call c.in_ok-place.ensures.finds.stands)

pub add_inside-requires-clause-within : goal.add_inside-requires-clause-within
add_inside-requires-clause-within g c = fits_word c.in_ok-place.place c.args.delta c.args.handle.now c.requires.value c.in_ok-place.ensures.lies.1

pub returns-clause-added : goal.returns-clause-added
returns-clause-added g c =
    let h = c.args.handle.now in
    let s = c.args.s.now in
    let d = rw (c.arena.ensures, c.value.ensures, c.resolved.ensures) at c.add_inside.ensures.did in
    updated c.args.base c.requires.call can_update (λ place. Adds h.value.order s.arena place c.args.delta)
    (λ place found. AddsValue (g.M.Memory.view c.args.m.now) (g.M.Memory.view c.add_inside.new.m) h.value s.arena place c.args.delta found)
    (sym c.in_ok-place.ensures.finds.place) (acted_inside d) (rw c.arena.ensures at c.add_inside.ensures.inside)
    (λ w. add_alone c.requires.value c.in_ok-place.ensures.lies.1 (acted_inside d) w)

pub returns-clause-kind : goal.returns-clause-kind
returns-clause-kind g c = ap kind_of c.add_inside.ensures.did.does.are.value ∙ kind_of-decoded (kind_of c.args.delta) _ ∙ c.requires.value
