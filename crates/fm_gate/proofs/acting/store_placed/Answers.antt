use Rattle.std.proofs.Common.{refl}
use Rattle.fm_gate.proofs.{Acts.{act_goes, after_act, place_on}, Placed.{place_small}}
use Rattle.fm_gate.proofs.acting.store_placed.Goals as goal

pub returns-clause-acted : goal.returns-clause-acted
returns-clause-acted c = after_act (record { stays = λ a. refl }) c.reach-at.ensures.found c.step_store.ensures c.requires

pub returns-clause-place : goal.returns-clause-place
returns-clause-place c = place_on (record { stays = λ a. refl }) c.reach-at.ensures.found c.step_store.ensures c.reach-at.ensures.place

pub returns-clause-small : goal.returns-clause-small
returns-clause-small c =
    let r = c.reach-at.ensures in
    place_small (act_goes (record { stays = λ a. refl }) r.found c.step_store.ensures).sound
    (place_on (record { stays = λ a. refl }) r.found c.step_store.ensures r.place)
