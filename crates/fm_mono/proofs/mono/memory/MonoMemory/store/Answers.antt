use Rattle.std.proofs.Common.{ap, ◌∙◌, refl}
use Rattle.fm_base.{specs.Calls.{Write, Fine}, proofs.Learning.{after_act}}
use Rattle.fm_mono.{specs.Shown.{Arenas}, proofs.Alone.{sound_of, did_act}}
use Rattle.fm_mono.proofs.mono.memory.MonoMemory.store.Goals as goal

pub returns : goal.returns
returns c =
    let p = c.put.ensures in
    let e = p.after in
    after_act (λ id. refl) (sound_of c.args.self.now p.small)
    (did_act c.args.self.now c.put.new.self p.id (λ a. Write a c.args.word c.args.v) Fine p.inside p.reach refl
    (ap (λ (x : Arenas). x.state) e) (ap (λ (x : Arenas). x.inside) e ∙ p.inside) (ap (λ (x : Arenas). x.limit) e))
