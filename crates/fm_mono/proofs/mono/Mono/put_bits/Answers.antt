use Rattle.std.proofs.Common.{ap, ◌∙◌, ◌∷◌, [], refl}
use Rattle.fm_base.{specs.{Arenas.{only_caller}, Calls.{SwapIf, Found, entry_of}, Does.{patched}, Visits.{hit}}, proofs.Learning.{after_patch}}
use Rattle.fm_mono.{specs.Shown.{Arenas}, proofs.Alone.{sound_of, makes_one, found_at, swaps}}
use Rattle.fm_mono.proofs.mono.Mono.put_bits.Goals as goal

pub returns : goal.returns
unfolding patched
returns c =
    let m = c.args.self.now in
    let p = c.put.ensures in
    let e = p.after in
    let found = c.word-found.result in
    let new = patched c.args.mask c.args.bits found in
    let w = found_at m c.args.word found p.id p.inside c.word-found.ensures in
    after_patch (sound_of m p.small) (record {
      own = entry_of only_caller (SwapIf p.id c.args.word found new) (Found found) ∷ [];
      does = rw p.inside ((SwapIf p.id c.args.word found new, Found found) ∷ [], hit, refl);
      makes = makes_one m c.put.new.self (SwapIf p.id c.args.word found new) (Found found) p.reach (ap Found w.1)
          (ap (λ (x : Arenas). x.state) e ∙ swaps m.state p.id c.args.word found new found refl)
          (ap (λ (x : Arenas). x.inside) e) (ap (λ (x : Arenas). x.limit) e);
    })
