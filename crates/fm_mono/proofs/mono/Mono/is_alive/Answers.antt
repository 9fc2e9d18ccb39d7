use Rattle.std.proofs.Common.{arith, ap}
use Rattle.fm_base.specs.Arenas.{Arena}
use Rattle.fm_mono.proofs.{Inside.{entered_of}, Showing.{nobody}, Allotting.{placed_for}, Steps.{placed_read, nobody_shown}}
use Rattle.fm_mono.proofs.mono.Mono.is_alive.Goals as goal

pub index-requires : goal.index-requires
index-requires c = omega (arith, (placed_for c.self.inside c.self.invariant c.self.view_is c.requires.known).in_range, c.self.inside.arenas.ok.0)

pub returns-clause-life : goal.returns-clause-life
returns-clause-life c =
    let p = placed_for c.self.inside c.self.invariant c.self.view_is c.requires.known in
    let same = placed_read c.self.inside.arenas.items c.args.id.slot p.arena c.index.result.now p.place c.index.ensures in
    rw (← c.self.view_is, ← same) (ap (λ (x : Arena). x.life) p.looked)

pub returns-clause-can : goal.returns-clause-can
returns-clause-can c =
    let p = placed_for c.self.inside c.self.invariant c.self.view_is c.requires.known in
    let r = rw (← c.self.view_is) at c.requires in
    let f = c.self.inside in
    rw (← c.self.view_is) (record {
      outside = r.outside;
      known = r.known;
      may = λ confined. p.owner;
      nowhere = nobody_shown f.limit (entered_of f) f.arenas.items r.outside;
      empty = rw r.outside (nobody f.limit f.arenas.items c.args.id);
    })
