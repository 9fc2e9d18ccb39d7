use Rattle.std.proofs.Common.{ap, refl}
use Rattle.fm_base.{specs.Calls.{Leave, Fine}, proofs.Learning.{after_leave}}
use Rattle.fm_mono.{specs.Shown.{Arenas}, proofs.Alone.{sound_of, did_act}}
use Rattle.fm_mono.proofs.mono.memory.MonoMemory.leave.Goals as goal

pub returns : goal.returns
returns c =
    let o = c.go_out.ensures in
    let e = o.after in
    after_leave (sound_of c.args.self.now o.small) (did_act c.args.self.now c.go_out.new.self o.id Leave Fine o.inside o.under_way refl
    (ap (λ (x : Arenas). x.state) e) (ap (λ (x : Arenas). x.inside) e) (ap (λ (x : Arenas). x.limit) e))
