use Rattle.std.proofs.Common.{refl}
use Rattle.fm_gate.proofs.Acts.{after_act, found_here, place_on}
use Rattle.fm_gate.proofs.acting.store_at.Goals as goal

pub step_store-requires-clause-of : goal.step_store-requires-clause-of
step_store-requires-clause-of c = c.requires.reach.inside.of

pub step_store-requires-clause-act : goal.step_store-requires-clause-act
step_store-requires-clause-act c = let r = c.requires.reach in record { id = r.id; inside = r.inside.inside; given = r.given }

pub returns-clause-acted : goal.returns-clause-acted
returns-clause-acted c = after_act (record { stays = λ a. refl }) (found_here refl) c.step_store.ensures c.requires.reach

pub returns-clause-stand : goal.returns-clause-stand
returns-clause-stand c = λ w at h. place_on (record { stays = λ a. refl }) (found_here refl) c.step_store.ensures h
