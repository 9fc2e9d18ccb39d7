use Rattle.std.proofs.Common.{ℕ, List, arith, ap, ◌∙◌, ◌≡◌, ◌+◌, ◌-◌, ◌<◌, ◌≤◌, take, drop, get_or, length}
use Rattle.std.proofs.lemmas.List.{get_or-take, get_or-drop}
use Rattle.fm_mono.{specs.Shown.{seen_of}, proofs.Inside.{entered_of}}
use Rattle.fm_mono.proofs.{Steps.{IsActed, acts_on, way_shown, within_shown, known_shown, word_shown}, Loading.{after_loads}}
use Rattle.fm_mono.proofs.mono.Mono.get_words.Goals.{After-index-arena}
use Rattle.fm_mono.proofs.mono.Mono.get_words.Goals as goal

here : (c : After-index-arena)
    → (let f = c.self.inside in let o = c.index-arena.result.now in
    (h : IsActed f.limit (entered_of f) f.current f.arenas.items o) × (c.args.first + length c.args.into.now ≤ length o.words.items))
here c =
    let f = c.self.inside in
    acts_on f.limit (entered_of f) f.current f.arenas.items c.index-arena.result.now c.args.first (length c.args.into.now) c.self.invariant
    (rw (← c.self.view_is) at c.requires) c.index-arena.ensures

pub slice_bounds-copy_from_slice-end : goal.slice_bounds-copy_from_slice-end
slice_bounds-copy_from_slice-end c =
    let h = here (goal.at.slice_bounds-copy_from_slice-end c).After-index-arena in
    let e : length c.deref.result.now ≡ length c.index-arena.result.now.words.items = ap length c.deref.ensures.value in
    omega (arith, h.1)

-- the words of a part of a list
part_at : (xs us : List ℕ) (first count i : ℕ) → us ≡ take (first + count - first) (drop first xs) → i < count → get_or us i 0 ≡ get_or xs (first + i) 0
part_at xs us first count i is below =
    ap (λ l. get_or l i 0) is ∙ get_or-take (first + count - first) (drop first xs) i 0 (omega arith) ∙ get_or-drop first xs i 0

pub returns : goal.returns
returns c =
    let f = c.self.inside in
    let o = c.index-arena.result.now in
    let first = c.args.first in
    let us = c.copy_from_slice.new.self in
    let h = here (goal.at.returns c).After-index-arena in
    let count : length us ≡ length c.args.into.now = c.copy_from_slice.ensures.len in
    let from : us ≡ take (first + length c.args.into.now - first) (drop first o.words.items) =
    c.copy_from_slice.ensures.after ∙ ap (λ l. take (first + length c.args.into.now - first) (drop first l)) c.deref.ensures.value in
    let most : first + length us ≤ length o.words.items = omega (arith, h.1) in
    rw (← c.self.view_is) (after_loads (seen_of f.limit (entered_of f) f.arenas.items) h.0.id first us c.self.invariant.arenas.small h.0.inside_is
    (record { known = known_shown h.0 c.self.invariant.arenas.names; under_way = way_shown h.0; within = within_shown h.0 (first + length us) most })
    (λ i below. part_at o.words.items us first (length c.args.into.now) i from (omega arith) ∙ word_shown h.0 (first + i) (omega arith)))
