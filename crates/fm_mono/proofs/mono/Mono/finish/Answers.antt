use Rattle.std.proofs.Common.{arith, ap, refl, false}
use Rattle.fm_base.specs.Arenas.{State, Arena}
use Rattle.fm_mono.{specs.declared.arena.MonoArena.{MonoArena}, proofs.{Inside.{entered_of, inside_of-set}, Allotting.{placed_for, read_for, ended_shown}}}
use Rattle.fm_mono.proofs.mono.Mono.finish.Goals as goal

pub index_mut-arena-requires : goal.index_mut-arena-requires
index_mut-arena-requires c =
    omega (arith, (placed_for c.self.inside c.self.invariant c.self.view_is c.requires.known).in_range, c.self.inside.arenas.ok.0)

pub invariant_of-self : goal.invariant_of-self
invariant_of-self c =
    let h =
    read_for c.self.inside c.self.invariant c.self.view_is c.requires.known c.index_mut-arena.result.now c.index_mut-arena.ensures.value c.requires.alive in
    let r = rw (← c.self.view_is) at c.requires in
    let o = c.index_mut-arena.result.now in
    let o' : MonoArena = record { id = o.id; is_alive = false; given = o.given; words = c.new.result; past = c.of.result } in
    let f = c.self.inside in
    rw (inside_of-set f.is_inside f.current c.args.id.slot f.arenas.items o o' h.place refl) (record {
      arenas = (ended_shown c.self.inside.limit (entered_of c.self.inside) c.self.inside.arenas.items c.args.id o c.self.invariant.arenas h o' r.outside refl
          refl refl c.of.ensures c.new.ensures.capacity).1;
      place = c.self.invariant.place;
    })

pub returns-clause-after : goal.returns-clause-after
returns-clause-after c =
    let h =
    read_for c.self.inside c.self.invariant c.self.view_is c.requires.known c.index_mut-arena.result.now c.index_mut-arena.ensures.value c.requires.alive in
    let r = rw (← c.self.view_is) at c.requires in
    let g = c.self.inside in
    let o = c.index_mut-arena.result.now in
    let o' : MonoArena = record { id = o.id; is_alive = false; given = o.given; words = c.new.result; past = c.of.result } in
    rw (← c.self.view_is, inside_of-set g.is_inside g.current c.args.id.slot g.arenas.items o o' h.place refl)
    (ap (λ (s : State). record { limit = g.limit; state = s; inside = entered_of g })
    (ended_shown g.limit (entered_of g) g.arenas.items c.args.id o c.self.invariant.arenas h o' r.outside refl refl refl c.of.ensures c.new.ensures.capacity).0)

pub returns-clause-holds : goal.returns-clause-holds
returns-clause-holds c =
    let h =
    read_for c.self.inside c.self.invariant c.self.view_is c.requires.known c.index_mut-arena.result.now c.index_mut-arena.ensures.value c.requires.alive in
    rw (← c.self.view_is) (ap (λ (x : Arena). x.holds) h.looked)
