use Rattle.std.proofs.Common.{sym, ◌∙◌}
use Rattle.fm_segment.proofs.Exits.{gave}
use Rattle.fm_handle.specs.{Acts.{Exchanges}, Alone.{ExchangesValue}, Place.{can_update}}
use Rattle.fm_visit.proofs.{Handles.{acted_inside, exchange_kind, fits_word, not_updated, updated, value_given}, Updating.{exchange_alone}}
use Rattle.fm_visit.proofs.handle.compare_and_exchange.Goals as goal

pub returns-in_err-place-clause-exchanged : goal.returns-in_err-place-clause-exchanged
returns-in_err-place-clause-exchanged g c =
    let h = c.args.handle.now in
    let s = c.args.s.now in
    rw (gave c.from_residual.ensures.1) (not_updated c.args.base c.requires.call can_update
    (λ place. Exchanges h.value.order s.arena place c.args.expected c.args.v)
    (λ place found. ExchangesValue (g.M.Memory.view c.args.m.now) (g.M.Memory.view c.args.m.now) h.value s.arena place c.args.expected c.args.v found)
    (sym c.in_err-place.ensures.finds.place))

pub exchange_inside-requires-clause-inside : goal.exchange_inside-requires-clause-inside
exchange_inside-requires-clause-inside g c = rw c.arena.ensures c.requires.call.inside.inside

pub exchange_inside-requires-clause-given : goal.exchange_inside-requires-clause-given
exchange_inside-requires-clause-given g c = rw c.arena.ensures (value_given c.requires.call c.in_ok-place.ensures.finds.stands)

pub exchange_inside-requires-clause-within : goal.exchange_inside-requires-clause-within
exchange_inside-requires-clause-within g c = fits_word c.in_ok-place.place c.args.v c.args.handle.now c.requires.value c.in_ok-place.ensures.lies.1

pub exchange_inside-requires-clause-kind : goal.exchange_inside-requires-clause-kind
exchange_inside-requires-clause-kind g c = c.requires.expected ∙ sym c.requires.value

pub returns-clause-exchanged : goal.returns-clause-exchanged
returns-clause-exchanged g c =
    let h = c.args.handle.now in
    let s = c.args.s.now in
    let d = rw (c.arena.ensures, c.value.ensures, c.resolved.ensures) at c.exchange_inside.ensures.did in
    updated c.args.base c.requires.call can_update (λ place. Exchanges h.value.order s.arena place c.args.expected c.args.v)
    (λ place found. ExchangesValue (g.M.Memory.view c.args.m.now) (g.M.Memory.view c.exchange_inside.new.m) h.value s.arena place c.args.expected c.args.v found)
    (sym c.in_ok-place.ensures.finds.place) (acted_inside d) (rw c.arena.ensures at c.exchange_inside.ensures.inside)
    (λ w. exchange_alone c.requires.value c.in_ok-place.ensures.lies.1 (acted_inside d) w)

pub returns-clause-kind : goal.returns-clause-kind
returns-clause-kind g c =
    let d = rw (c.arena.ensures, c.value.ensures, c.resolved.ensures) at c.exchange_inside.ensures.did in
    exchange_kind c.args.handle.now c.args.s.now.arena c.requires.expected c.requires.value d.does.are
