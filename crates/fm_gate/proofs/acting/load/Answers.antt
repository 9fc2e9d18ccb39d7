use Rattle.std.proofs.Common.{refl}
use Rattle.fm_gate.proofs.Acts.{after_act}
use Rattle.fm_gate.proofs.acting.load.Goals as goal

pub returns : goal.returns
returns c = after_act (record { stays = λ a. refl }) c.reach-place.ensures.found c.step_load.ensures c.requires
