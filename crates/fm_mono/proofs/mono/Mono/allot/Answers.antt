use Rattle.std.proofs.Common.{sym, ap, ◌∙◌, refl, rules, Bool, if◌then◌else◌}
use Rattle.fm_base.{specs.{Arenas.{only_caller, Alive, Ended}, Machine.{IsPower}, Visits.{refused_visit}}, proofs.Learning.{after_allocate}}
use Rattle.fm_mono.proofs.{Alone.{sound_of}, Visits.{enter_closed, allocates}}
use Rattle.fm_mono.proofs.mono.Mono.allot.Goals as goal

pub returns-then-not-alive-clause-got : goal.returns-then-not-alive-clause-got
returns-then-not-alive-clause-got c =
    let s = c.is_alive-alive.ensures in
    let over = s.life ∙ ap (λ (b : Bool). if b then Alive else Ended) c.if-not-alive.true in
    let power : IsPower c.args.align = sym c.is_power_of_two.ensures ∙ c.if-not-is_power_of_two.false in
    after_allocate c.requires (sound_of c.args.self.now s.small) tt (λ e. absurd (cc)) (record {
      own = refused_visit only_caller c.args.id;
      does = (power, s.can.may, refl);
      makes = enter_closed c.args.self.now c.args.id s.can over;
    })

pub returns-clause-got : goal.returns-clause-got
returns-clause-got c =
    let s = c.is_alive-alive.ensures in
    let alive = s.life ∙ ap (λ (b : Bool). if b then Alive else Ended) c.if-not-alive.false in
    let power : IsPower c.args.align = sym c.is_power_of_two.ensures ∙ c.if-not-is_power_of_two.false in
    after_allocate c.requires (sound_of c.args.self.now s.small) (search rules) (λ e. tt)
    (allocates c.args.self.now c.args.id s.can alive c.grow.new.self c.args.size c.args.align c.grow.result power c.grow.ensures.got)
