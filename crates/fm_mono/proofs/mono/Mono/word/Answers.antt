use Rattle.std.proofs.{Common.{arith, ◌∙◌, ◌<◌, length}, lemmas.List.{get_or_read}}
use Rattle.fm_mono.proofs.{Inside.{entered_of}, Steps.{IsActed, acts_at, reach_shown, word_shown}, mono.Mono.word.Goals.{After-index}}
use Rattle.fm_mono.proofs.mono.Mono.word.Goals as goal

here : (c : After-index)
    → (let f = c.self.inside in let o = c.index.result.now in
    (h : IsActed f.limit (entered_of f) f.current f.arenas.items o) × (c.args.word < length o.words.items))
here c =
    let f = c.self.inside in
    acts_at f.limit (entered_of f) f.current f.arenas.items c.index.result.now c.args.word c.self.invariant
    (rw (← c.self.view_is) at c.requires) c.index.ensures

pub index-requires-2 : goal.index-requires-2
index-requires-2 c = omega (arith, (here c).1, c.index.result.now.words.ok.0)

pub returns : goal.returns
returns c =
    let h = here (goal.at.returns c).After-index in
    rw (← c.self.view_is) (record {
      id = h.0.id;
      inside = h.0.inside_is;
      reach = reach_shown h.0 c.args.word h.1;
      is = get_or_read c.index.result.now.words.items c.args.word _ h.1 c.index-2.ensures 0 ∙ word_shown h.0 c.args.word h.1;
      small = c.self.invariant.arenas.small;
    })
