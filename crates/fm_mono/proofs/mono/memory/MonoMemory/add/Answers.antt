use Rattle.std.proofs.Common.{ap, ◌∙◌, refl}
use Rattle.fm_base.{specs.Calls.{Add, Found}, proofs.Learning.{after_act}}
use Rattle.fm_mono.{specs.Shown.{Arenas}, proofs.Alone.{sound_of, did_act, found_at}}
use Rattle.fm_mono.proofs.mono.memory.MonoMemory.add.Goals as goal

pub returns : goal.returns
returns c =
    let m = c.args.self.now in
    let p = c.put.ensures in
    let e = p.after in
    let found = c.word-found.result in
    let w = found_at m c.args.word found p.id p.inside c.word-found.ensures in
    after_act (λ id. refl) (sound_of m p.small) (did_act m c.put.new.self p.id (λ a. Add a c.args.word c.args.n) (Found found) p.inside w.0 (ap Found w.1)
    (ap (λ (x : Arenas). x.state) e) (ap (λ (x : Arenas). x.inside) e ∙ p.inside) (ap (λ (x : Arenas). x.limit) e))
