use Rattle.std.proofs.Common.{ap, ◌∙◌, refl, arith}
use Rattle.fm_base.{specs.Calls.{SwapIf, Found}, proofs.Learning.{after_act}}
use Rattle.fm_mono.{specs.Shown.{Arenas}, proofs.Alone.{sound_of, did_act, found_at, swaps, swaps_not}}
use Rattle.fm_mono.proofs.mono.memory.MonoMemory.swap_if.Goals as goal

pub returns-then-found-old : goal.returns-then-found-old
returns-then-found-old c =
    let m = c.args.self.now in
    let p = c.put.ensures in
    let e = p.after in
    let found = c.word-found.result in
    let w = found_at m c.args.word found p.id p.inside c.word-found.ensures in
    after_act (λ id. refl) (sound_of m p.small)
    (did_act m c.put.new.self p.id (λ a. SwapIf a c.args.word c.args.old c.args.new) (Found found) p.inside p.reach (ap Found w.1)
    (ap (λ (x : Arenas). x.state) e ∙ swaps m.state p.id c.args.word c.args.old c.args.new found c.if-found-old.true)
    (ap (λ (x : Arenas). x.inside) e ∙ p.inside) (ap (λ (x : Arenas). x.limit) e))

pub returns-else-found-old : goal.returns-else-found-old
returns-else-found-old c =
    let m = c.args.self.now in
    let w = c.word-found.ensures in
    let found = c.word-found.result in
    after_act (λ id. refl) (sound_of m w.small) (did_act m m w.id (λ a. SwapIf a c.args.word c.args.old c.args.new) (Found found) w.inside
    (record { under_way = w.reach.under_way; within = w.reach.within; fits = omega arith }) (ap Found w.is)
    (swaps_not m.state w.id c.args.word c.args.old c.args.new found c.if-found-old.false) w.inside refl)
