use Rattle.std.proofs.Common.{ap, refl}
use Rattle.fm_base.{specs.Calls.{Read, Found}, proofs.Learning.{after_act}}
use Rattle.fm_mono.proofs.Alone.{sound_of, did_act}
use Rattle.fm_mono.proofs.mono.memory.MonoMemory.load.Goals as goal

pub returns : goal.returns
returns c =
    let m = c.args.self.now in
    let w = c.word.ensures in
    after_act (λ id. refl) (sound_of m w.small)
    (did_act m m w.id (λ a. Read a c.args.word) (Found c.word.result) w.inside w.reach (ap Found w.is) refl w.inside refl)
