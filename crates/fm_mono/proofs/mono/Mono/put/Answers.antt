use Rattle.std.proofs.Common.{arith, refl, ◌<◌, ◌∷◌, [], length}
use Rattle.fm_mono.proofs.{Inside.{entered_of}, Steps.{IsActed, acts_at, reach_shown, put_kept}, mono.Mono.put.Goals.{After-index_mut-arena}}
use Rattle.fm_mono.proofs.mono.Mono.put.Goals as goal

here : (c : After-index_mut-arena)
    → (let f = c.self.inside in let o = c.index_mut-arena.result.now in
    (h : IsActed f.limit (entered_of f) f.current f.arenas.items o) × (c.args.word < length o.words.items))
here c =
    let f = c.self.inside in
    acts_at f.limit (entered_of f) f.current f.arenas.items c.index_mut-arena.result.now c.args.word c.self.invariant
    (rw (← c.self.view_is) at c.requires) c.index_mut-arena.ensures.value

pub index_mut-requires : goal.index_mut-requires
index_mut-requires c = omega (arith, (here (goal.at.index_mut-requires c).After-index_mut-arena).1, c.index_mut-arena.result.now.words.ok.0)

pub invariant_of-self : goal.invariant_of-self
invariant_of-self c =
    let f = c.self.inside in
    let h = here (goal.at.invariant_of-self c).After-index_mut-arena in
    (put_kept f.limit f.is_inside f.current f.arenas.items c.args.word (c.args.v ∷ []) c.index_mut-arena.result.now _ c.self.invariant h.0
    (let w = h.1 in omega arith) refl refl refl refl).1

pub returns : goal.returns
returns c =
    let f = c.self.inside in
    let h = here (goal.at.returns c).After-index_mut-arena in
    let reach = reach_shown h.0 c.args.word h.1 in
    rw (← c.self.view_is) (record {
      id = h.0.id;
      inside = h.0.inside_is;
      reach = record { under_way = reach.under_way; within = reach.within; fits = omega arith };
      after = (put_kept f.limit f.is_inside f.current f.arenas.items c.args.word (c.args.v ∷ []) c.index_mut-arena.result.now _ c.self.invariant h.0
          (let w = h.1 in omega arith) refl refl refl refl).0;
      small = c.self.invariant.arenas.small;
    })
