use Rattle.std.proofs.Common.{◌≡◌, ap, ◌∙◌, Some, refl}
use Rattle.fm_base.specs.Arenas.{State}
use Rattle.fm_mono.{specs.Shown.{name_at}, proofs.{Inside.{entered_of, name_at_is}, Steps.{enters_shown}}}
use Rattle.fm_mono.proofs.mono.Mono.come_in.Goals as goal

pub invariant_of-self : goal.invariant_of-self
invariant_of-self c =
    let r = rw (← c.self.view_is) at c.requires in
    let f = c.self.inside in
    let i = c.self.invariant.arenas in
    let e = enters_shown f.limit (entered_of f) f.arenas.items c.args.id i.names r.outside r.known r.alive in
    let name : name_at c.args.id.slot f.arenas.items ≡ c.args.id = name_at_is c.args.id.slot f.arenas.items e.1.0 e.1.1 ∙ e.1.2 in
    rw name (record { arenas = record { small = i.small; few = i.few; names = i.names; fit = i.fit; there = e.1 }; place = refl })

pub returns : goal.returns
returns c =
    let r = rw (← c.self.view_is) at c.requires in
    let f = c.self.inside in
    let i = c.self.invariant.arenas in
    let e = enters_shown f.limit (entered_of f) f.arenas.items c.args.id i.names r.outside r.known r.alive in
    let name : name_at c.args.id.slot f.arenas.items ≡ c.args.id = name_at_is c.args.id.slot f.arenas.items e.1.0 e.1.1 ∙ e.1.2 in
    rw (← c.self.view_is, name) (ap (λ (s : State). record { limit = f.limit; state = s; inside = Some c.args.id }) e.0)
