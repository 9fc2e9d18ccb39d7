use Rattle.std.proofs.Common.{ℕ, List, arith, refl, sym, ap, ◌∙◌, ◌≡◌, ◌+◌, ◌-◌, ◌≤◌, ◌++◌, take, drop, length}
use Rattle.std.{proofs.{lemmas.List.{append_assoc, drop-drop, with_items_is, Edits.{sets, sets-eq}}, Math.Seq.{length-sets}}, specs.Vec.{with_items}}
use Rattle.fm_mono.{specs.{declared.arena.MonoArena.{MonoArena}, Shown.{seen_of}}, proofs.Inside.{entered_of}}
use Rattle.fm_mono.proofs.{Steps.{IsActed, acts_on, put_kept, way_shown, within_shown, known_shown}, Storing.{after_stores}}
use Rattle.fm_mono.proofs.mono.Mono.put_words.Goals.{After-index_mut-arena}
use Rattle.fm_mono.proofs.mono.Mono.put_words.Goals as goal

here : (c : After-index_mut-arena)
    → (let f = c.self.inside in let o = c.index_mut-arena.result.now in
    (h : IsActed f.limit (entered_of f) f.current f.arenas.items o) × (c.args.first + length c.args.words.now ≤ length o.words.items))
here c =
    let f = c.self.inside in
    acts_on f.limit (entered_of f) f.current f.arenas.items c.index_mut-arena.result.now c.args.first (length c.args.words.now) c.self.invariant
    (rw (← c.self.view_is) at c.requires) c.index_mut-arena.ensures.value

-- these bytes of a list, as a slice of it that was written over leaves them
abbrev parts : List ℕ → List ℕ → List ℕ → ℕ → List ℕ
parts vs ys us first = take first ys ++ (us ++ drop (first + length vs - first) (drop first ys))

-- the words with others put among them
spliced : (o : MonoArena) (vs ys us : List ℕ) (first : ℕ) → ys ≡ o.words.items → us ≡ vs → first + length vs ≤ length o.words.items
    → (with_items o.words (parts vs ys us first)).items ≡ sets o.words.items first vs
spliced o vs ys us first e u within =
    let xs = o.words.items in
    let rest : drop (first + length vs - first) (drop first xs) ≡ drop (first + length vs) xs =
    drop-drop (first + length vs - first) first xs ∙ ap (λ n. drop n xs) (let n : first + (first + length vs - first) ≡ first + length vs = omega arith in n) in
    let all : parts vs ys us first ≡ sets xs first vs =
    rw (e, u, rest, sets-eq vs xs first within) (sym (append_assoc (take first xs) vs (drop (first + length vs) xs))) in
    let size = ap length all ∙ length-sets xs first vs in
    with_items_is o.words (parts vs ys us first) (let k = o.words.ok.0 in omega arith) ∙ all

pub slice_bounds-copy_from_slice-end : goal.slice_bounds-copy_from_slice-end
slice_bounds-copy_from_slice-end c =
    let h = here (goal.at.slice_bounds-copy_from_slice-end c).After-index_mut-arena in
    let e : length c.deref_mut.result.now ≡ length c.index_mut-arena.result.now.words.items = ap length c.deref_mut.ensures.value in
    omega (arith, h.1)

pub invariant_of-self : goal.invariant_of-self
invariant_of-self c =
    let f = c.self.inside in
    let o = c.index_mut-arena.result.now in
    let words = c.args.words.now in
    let h = here (goal.at.invariant_of-self c).After-index_mut-arena in
    let us = c.copy_from_slice.new.self in
    let e = spliced o words c.deref_mut.result.now us c.args.first c.deref_mut.ensures.value c.copy_from_slice.ensures.after h.1 in
    let o' = record o { words = with_items o.words (parts words c.deref_mut.result.now us c.args.first) } in
    (put_kept f.limit f.is_inside f.current f.arenas.items c.args.first words o o' c.self.invariant h.0 h.1 refl refl refl e).1

pub returns : goal.returns
returns c =
    let f = c.self.inside in
    let o = c.index_mut-arena.result.now in
    let words = c.args.words.now in
    let h = here (goal.at.returns c).After-index_mut-arena in
    let us = c.copy_from_slice.new.self in
    let e = spliced o words c.deref_mut.result.now us c.args.first c.deref_mut.ensures.value c.copy_from_slice.ensures.after h.1 in
    let o' = record o { words = with_items o.words (parts words c.deref_mut.result.now us c.args.first) } in
    let after = (put_kept f.limit f.is_inside f.current f.arenas.items c.args.first words o o' c.self.invariant h.0 h.1 refl refl refl e).0 in
    rw (← c.self.view_is) (after_stores (seen_of f.limit (entered_of f) f.arenas.items) _ h.0.id c.args.first words c.self.invariant.arenas.small h.0.inside_is
    (record { known = known_shown h.0 c.self.invariant.arenas.names; under_way = way_shown h.0; within = within_shown h.0 (c.args.first + length words) h.1 })
    (λ i. (c.type_inv.words i).fits) after)
