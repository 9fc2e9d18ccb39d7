use Rattle.std.{proofs.Common.{arith, ◌∙◌, ap, ◌≡◌, ℕ, set, ◌+◌, ◌-◌, ◌≤◌, ◌<◌, ◌++◌, refl, replicate, take, length, vec_len}, specs.Prelude.{vec_capacity}}
use Rattle.std.proofs.lemmas.Result.{err_from_is_err_and}
use Rattle.fm_base.{specs.{Arenas.{State, changed}, Calls.{Given}, Machine.{rounded_up, words_within, given_up_to}}, proofs.Growing.{power_pos}}
use Rattle.fm_mono.{specs.Shown.{shown_all, IsSoundMono}, proofs.Inside.{entered_of, inside_of-set}}
use Rattle.fm_mono.proofs.Allotting.{IsRead, placed_for, read_for, no_room, gives_place, grows, unchanged, same_shown, allotted_shown, wants_words, is_grown}
use Rattle.fm_mono.proofs.mono.Mono.grow.Goals.{After-index_mut-arena, In_ok-resize}
use Rattle.fm_mono.proofs.mono.Mono.grow.Goals as goal

here : (c : After-index_mut-arena) → IsRead c.self.inside.limit (entered_of c.self.inside) c.self.inside.arenas.items c.args.id c.index_mut-arena.result.now
here c =
    read_for c.self.inside c.self.invariant c.self.view_is c.requires.known c.index_mut-arena.result.now c.index_mut-arena.ensures.value c.requires.alive

-- the arenas once the words are resized
allotted : (c : In_ok-resize)
    → let f = c.self.inside in
    let end : ℕ = c.round_up-place.result + c.from.result in
    let arenas = set f.arenas.items c.args.id.slot (record c.index_mut-arena.result.now { words = c.resize.new.self; given = end }) in
    (shown_all f.limit (entered_of f) arenas ≡ changed (shown_all f.limit (entered_of f) f.arenas.items) c.args.id (given_up_to end))
    × IsSoundMono f.limit (entered_of f) arenas
allotted c =
    let f = c.self.inside in
    let h =
    read_for c.self.inside c.self.invariant c.self.view_is c.requires.known c.index_mut-arena.result.now c.index_mut-arena.ensures.value c.requires.alive in
    let o = c.index_mut-arena.result.now in
    let end = c.round_up-place.result + c.from.result in
    let fits : end ≤ f.limit = omega (arith, c.if-end-from.false, c.from-2.ensures) in
    let r = rw (← c.self.view_is) at c.requires in
    let more : length o.words.items ≤ words_within end =
    rw (c.round_up-place.ensures, c.from.ensures)
    (grows f.limit (entered_of f) f.arenas.items c.args.id o c.self.invariant.arenas h c.args.size c.args.align (power_pos c.args.align r.power)) in
    let len : vec_len o.words ≡ length o.words.items = omega (arith, o.words.ok.0) in
    let grown = is_grown o.words.items c.resize.new.self.items (words_within end) more (c.in_ok-resize.ensures.items
    ∙ ap (λ l. take (words_within end) o.words.items ++ replicate (words_within end - l) 0) len) in
    allotted_shown f.limit (entered_of f) f.arenas.items c.args.id o c.self.invariant.arenas h end (record o {
      words = c.resize.new.self;
      given = end;
    }) fits refl refl refl more grown

pub index_mut-arena-requires : goal.index_mut-arena-requires
index_mut-arena-requires c =
    omega (arith, (placed_for c.self.inside c.self.invariant c.self.view_is c.requires.known).in_range, c.self.inside.arenas.ok.0)

pub returns-then-end-from-clause-got : goal.returns-then-end-from-clause-got
returns-then-end-from-clause-got c =
    let f = c.self.inside in
    let h = here (goal.at.returns-then-end-from-clause-got c).After-index_mut-arena in
    let o = c.index_mut-arena.result.now in
    let past : f.limit < rounded_up o.given c.args.align + c.args.size =
    omega (arith, c.if-end-from.true, c.from-2.ensures, c.from.ensures, c.round_up-place.ensures) in
    let u = unchanged f.limit (entered_of f) f.arenas.items c.args.id o c.self.invariant.arenas h in
    rw (← c.self.view_is, inside_of-set f.is_inside f.current c.args.id.slot f.arenas.items o o h.place refl) (
      no_room f.limit (entered_of f) f.arenas.items c.args.id o c.self.invariant.arenas h c.args.size c.args.align past,
      ap (λ (s : State). record { limit = f.limit; state = s; inside = entered_of f }) u.1,
    )

pub invariant_of-self-in_err-resize : goal.invariant_of-self-in_err-resize
invariant_of-self-in_err-resize c =
    let f = c.self.inside in
    let h = here (goal.at.invariant_of-self-in_err-resize c).After-index_mut-arena in
    let o = c.index_mut-arena.result.now in
    rw (inside_of-set f.is_inside f.current c.args.id.slot f.arenas.items o (record o { words = c.resize.new.self }) h.place refl) (record {
      arenas = (same_shown f.limit (entered_of f) f.arenas.items c.args.id o c.self.invariant.arenas h (record o { words = c.resize.new.self }) refl refl refl
          c.in_err-resize.ensures.items).0;
      place = c.self.invariant.place;
    })

pub returns-in_err-resize-clause-got : goal.returns-in_err-resize-clause-got
returns-in_err-resize-clause-got c =
    let p = err_from_is_err_and c.from_residual.result c.from_residual.ensures.1 in
    let f = c.self.inside in
    let h = here (goal.at.returns-in_err-resize-clause-got c).After-index_mut-arena in
    let o = c.index_mut-arena.result.now in
    let e = same_shown f.limit (entered_of f) f.arenas.items c.args.id o c.self.invariant.arenas h (record o { words = c.resize.new.self }) refl refl refl
    c.in_err-resize.ensures.items in
    rw (
      p.1,
      p.2,
      ← c.self.view_is,
      inside_of-set f.is_inside f.current c.args.id.slot f.arenas.items o (record o { words = c.resize.new.self }) h.place
          refl,
    ) (ap (λ (s : State). record { limit = f.limit; state = s; inside = entered_of f }) e.1)

pub invariant_of-self-2 : goal.invariant_of-self-2
invariant_of-self-2 c =
    let f = c.self.inside in
    let h = here (goal.at.invariant_of-self-2 c).After-index_mut-arena in
    let o = c.index_mut-arena.result.now in
    rw (inside_of-set f.is_inside f.current c.args.id.slot f.arenas.items o
    (record o { words = c.resize.new.self; given = c.round_up-place.result + c.from.result }) h.place refl) (record {
      arenas = (allotted (goal.at.invariant_of-self-2 c).In_ok-resize).1;
      place = c.self.invariant.place;
    })

pub returns-clause-got : goal.returns-clause-got
returns-clause-got c =
    let f = c.self.inside in
    let h = here (goal.at.returns-clause-got c).After-index_mut-arena in
    let o = c.index_mut-arena.result.now in
    let end = c.round_up-place.result + c.from.result in
    let e = allotted (goal.at.returns-clause-got c).In_ok-resize in
    let room : rounded_up o.given c.args.align + c.args.size ≤ f.limit =
    omega (arith, c.if-end-from.false, c.from-2.ensures, c.from.ensures, c.round_up-place.ensures) in
    let same : end ≡ c.round_up-place.result + c.args.size = omega (arith, c.from.ensures) in
    rw (
      ← c.self.view_is,
      inside_of-set f.is_inside f.current c.args.id.slot f.arenas.items o (record o { words = c.resize.new.self; given = end })
          h.place refl,
    ) (
      ap Given c.round_up-place.ensures ∙ gives_place f.limit (entered_of f) f.arenas.items c.args.id o c.self.invariant.arenas h c.args.size c.args.align room,
      ap (λ (s : State). record { limit = f.limit; state = s; inside = entered_of f }) (e.0
          ∙ ap (λ k. changed (shown_all f.limit (entered_of f) f.arenas.items) c.args.id (given_up_to k)) same),
    )

pub returns-in_err-resize-clause-wants : goal.returns-in_err-resize-clause-wants
returns-in_err-resize-clause-wants c = λ memory.
    let f = c.self.inside in
    let h = here (goal.at.returns-in_err-resize-clause-wants c).After-index_mut-arena in
    let o = c.index_mut-arena.result.now in
    let most : length o.words.items ≤ vec_capacity o.words = omega (arith, o.words.ok.0, o.words.ok.1) in
    let more : vec_capacity o.words < words_within (rounded_up o.given c.args.align + c.args.size) =
    omega (arith, c.in_err-resize.ensures.full, c.from.ensures, c.round_up-place.ensures) in
    let room : rounded_up o.given c.args.align + c.args.size ≤ f.limit =
    omega (arith, c.if-end-from.false, c.from-2.ensures, c.from.ensures, c.round_up-place.ensures) in
    rw (← c.self.view_is) (wants_words f.limit (entered_of f) f.arenas.items c.args.id o c.self.invariant.arenas h c.args.size c.args.align
    (vec_capacity o.words) most more room)
