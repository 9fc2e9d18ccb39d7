use Rattle.fm_rule.proofs.Allowed.{sound_now}
use Rattle.fm_rule.proofs.pass.Pass.term.Goals as goal

pub returns-clause-sound : goal.returns-clause-sound
returns-clause-sound c = sound_now _ c.self.inside.seat.me.0 _ c.self.view_is c.self.invariant.sound
