use Rattle.std.proofs.Common.{◌∙◌, ◌∷◌, [], ◌≡◌, length, true, refl, arith}
use Rattle.fm_base.{specs.{Arenas.{only_caller}, declared.arena_id.ArenaId.{ArenaId}, Calls.{Open, Fine, entry_of}}, proofs.Learning.{after_open}}
use Rattle.fm_mono.{proofs.{Inside.{entered_of, inside_of-none}, Alone.{sound_of}}, specs.declared.arena.MonoArena.{MonoArena}}
use Rattle.fm_mono.{specs.Shown.{shown_all, seen_of, most_arenas}, proofs.{Opening.{sound_push, length-shown_all, opens}, mono.Mono.open.Goals.{In-Ok}}}
use Rattle.fm_mono.proofs.mono.Mono.open.Goals as goal

pub returns-then-slot-eq-MOST_ARENAS-clause-full : goal.returns-then-slot-eq-MOST_ARENAS-clause-full
returns-then-slot-eq-MOST_ARENAS-clause-full c =
    let f = c.self.inside in
    let n : length (shown_all f.limit (entered_of f) f.arenas.items) ≡ most_arenas = length-shown_all f.limit (entered_of f) f.arenas.items
    ∙ omega (arith, c.len-slot.ensures, f.arenas.ok.0, c.if-slot-eq-MOST_ARENAS.true) in
    (λ _. rw (← c.self.view_is) n, λ _. refl)

pub overflow_cast-id : goal.overflow_cast-id
overflow_cast-id c = omega (arith, c.len-slot.ensures, c.self.inside.arenas.ok.0, c.self.invariant.arenas.few, c.if-slot-eq-MOST_ARENAS.false)

pub returns-in-Err-clause-full : goal.returns-in-Err-clause-full
returns-in-Err-clause-full c =
    let f = c.self.inside in
    let n = length-shown_all f.limit (entered_of f) f.arenas.items in
    (λ e. absurd (cc), rw (← c.self.view_is) (λ l. absurd (omega (arith, n, c.len-slot.ensures, f.arenas.ok.0, c.if-slot-eq-MOST_ARENAS.false))))

pub invariant_of-self : goal.invariant_of-self
invariant_of-self c = rw c.in-Err.ensures.items c.self.invariant

pub invariant_of-self-2 : goal.invariant_of-self-2
invariant_of-self-2 c =
    let r = rw (← c.self.view_is) at c.requires in
    let f = c.self.inside in
    rw (inside_of-none f.is_inside f.current f.arenas.items c.push.new.self.items r.outside) (record {
      arenas = rw c.in-Ok.ensures.items
          (sound_push c.self.inside.limit (entered_of c.self.inside) c.self.inside.arenas.items _ c.self.invariant.arenas r.outside
          (omega (arith, c.len-slot.ensures, c.self.inside.arenas.ok.0)) refl
          (record { given = omega arith; words = λ _. rw c.new.ensures.items (omega arith); freed = λ _. c.new.ensures.capacity })
          (omega (arith, c.len-slot.ensures, c.self.inside.arenas.ok.0, c.self.invariant.arenas.few, c.if-slot-eq-MOST_ARENAS.false)));
      place = c.self.invariant.place;
    })

pub returns-clause-got : goal.returns-clause-got
returns-clause-got c =
    let r = rw (← c.self.view_is) at c.requires in
    let f = c.self.inside in
    let id : ArenaId = record { slot = c.len-slot.result; generation = 0; kind = c.args.kind; owner = 0; term = 0 } in
    let o : MonoArena = record { id = id; is_alive = true; given = 0; words = c.new.result; past = c.empty.result } in
    let slot : c.len-slot.result ≡ length f.arenas.items = omega (arith, c.len-slot.ensures, f.arenas.ok.0) in
    let sound = sound_of (seen_of f.limit (entered_of f) f.arenas.items) c.self.invariant.arenas.small in
    rw (← c.self.view_is, inside_of-none f.is_inside f.current f.arenas.items c.push.new.self.items r.outside)
    (after_open r.outside sound tt (λ e. tt) (record {
      own = entry_of only_caller (Open id) Fine ∷ [];
      does = (refl, refl, refl);
      makes = opens f.limit (entered_of f) f.arenas.items c.push.new.self.items o c.self.invariant.arenas r.outside c.in-Ok.ensures.items refl refl
          c.new.ensures.items slot refl;
    }))

pub returns-clause-full : goal.returns-clause-full
returns-clause-full c =
    let f = c.self.inside in
    let n = length-shown_all f.limit (entered_of f) f.arenas.items in
    (λ e. absurd (cc), rw (← c.self.view_is) (λ l. absurd (omega (arith, n, c.len-slot.ensures, f.arenas.ok.0, c.if-slot-eq-MOST_ARENAS.false))))
