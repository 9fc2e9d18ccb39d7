use Rattle.std.proofs.Common.{refl}
use Rattle.fm_base.specs.Does.{patched}
use Rattle.fm_gate.proofs.{Acts.{after_act, found_here, place_on}, Tries.{tries_begin, tries_go_on, tries_end, tries_reach}}
use Rattle.fm_gate.proofs.patching.patch.Goals as goal

pub loop-init : goal.loop-init
loop-init g c =
    let r = c.reach-place.ensures in (
      tries_begin c.requires.reach (after_act (record { stays = λ a. refl }) r.found c.step_load-old.ensures c.requires.reach),
      place_on (record { stays = λ a. refl }) r.found c.step_load-old.ensures r.place,
    )

pub step_swap_if-found-requires-clause-of : goal.step_swap_if-found-requires-clause-of
step_swap_if-found-requires-clause-of g c = c.loop.invariant.0.inside.of

pub step_swap_if-found-requires-clause-act : goal.step_swap_if-found-requires-clause-act
step_swap_if-found-requires-clause-act g c =
    let t = c.loop.invariant.0 in record { id = t.id; inside = t.inside.inside; given = t.given }

pub step_swap_if-found-requires-clause-place : goal.step_swap_if-found-requires-clause-place
step_swap_if-found-requires-clause-place g c = c.loop.invariant.1

pub returns-then-found-old : goal.returns-then-found-old
unfolding patched
returns-then-found-old g c =
    let t = c.loop.invariant.0 in
    tries_end _ _ _ t c.if-found-old.true refl (after_act (record { stays = λ a. refl }) (found_here refl) c.step_swap_if-found.ensures (tries_reach t))

pub loop-preserved : goal.loop-preserved
loop-preserved g c =
    let t = c.loop.invariant.0 in (
      tries_go_on _ _ _ t c.if-found-old.false (after_act (record { stays = λ a. refl }) (found_here refl) c.step_swap_if-found.ensures (tries_reach t)),
      place_on (record { stays = λ a. refl }) (found_here refl) c.step_swap_if-found.ensures c.loop.invariant.1,
    )
