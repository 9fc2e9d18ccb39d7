use Rattle.std.proofs.Common.{sym, ap, ◌∙◌, ◌∷◌, [], refl, if◌then◌else◌, Bool}
use Rattle.fm_base.specs.{Arenas.{only_caller, Alive, Ended}, Calls.{Enter, Fine, entry_of}, Machine.{enter_reply}, Visits.{refused_visit}}
use Rattle.fm_base.proofs.Learning.{after_enter}
use Rattle.fm_mono.{specs.Shown.{Arenas}, proofs.{Alone.{sound_of, makes_one}, Visits.{enter_closed}}}
use Rattle.fm_mono.proofs.mono.memory.MonoMemory.enter.Goals as goal

pub returns-then-is_alive : goal.returns-then-is_alive
returns-then-is_alive c =
    let e = c.come_in.ensures in
    let s = c.is_alive.ensures in
    let alive = s.life ∙ ap (λ (b : Bool). if b then Alive else Ended) c.if-is_alive.true in
    after_enter c.requires (sound_of c.args.self.now s.small) (record {
      own = entry_of only_caller (Enter c.args.id) Fine ∷ [];
      does = (s.can.may, refl);
      makes = makes_one c.args.self.now c.come_in.new.self (Enter c.args.id) Fine (s.can.known, s.can.may, s.can.nowhere) (sym (ap enter_reply alive))
          (ap (λ (x : Arenas). x.state) e) (ap (λ (x : Arenas). x.inside) e) (ap (λ (x : Arenas). x.limit) e);
    })

pub returns-else-is_alive : goal.returns-else-is_alive
returns-else-is_alive c =
    let s = c.is_alive.ensures in
    let over = s.life ∙ ap (λ (b : Bool). if b then Alive else Ended) c.if-is_alive.false in
    after_enter c.requires (sound_of c.args.self.now s.small) (record {
      own = refused_visit only_caller c.args.id;
      does = (s.can.may, refl);
      makes = enter_closed c.args.self.now c.args.id s.can over;
    })
