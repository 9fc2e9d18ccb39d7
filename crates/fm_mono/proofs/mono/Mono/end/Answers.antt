use Rattle.std.proofs.Common.{ap, ◌∙◌, ◌∷◌, [], refl, Bool, if◌then◌else◌}
use Rattle.fm_base.{specs.{Arenas.{only_caller, Alive, Ended}, Calls.{Shut, End, Fine, Closed, entry_of}, Does.{IsClosable}}, proofs.Learning.{after_close}}
use Rattle.fm_mono.proofs.{Alone.{sound_of}, Visits.{closes, shut_closed}}
use Rattle.fm_mono.proofs.mono.Mono.end.Goals as goal

pub returns-then-not-alive : goal.returns-then-not-alive
returns-then-not-alive c =
    let s = c.is_alive-alive.ensures in
    let over = s.life ∙ ap (λ (b : Bool). if b then Alive else Ended) c.if-not-alive.true in
    let kind : IsClosable c.args.id.kind = c.is_closable.ensures.yes c.if-not-is_closable.false in
    after_close c.requires (sound_of c.args.self.now s.small) (record {
      own = entry_of only_caller (Shut c.args.id) Closed ∷ [];
      does = (kind, s.can.may, refl);
      makes = shut_closed c.args.self.now c.args.id s.can kind.0 over;
    })

pub returns : goal.returns
returns c =
    let s = c.is_alive-alive.ensures in
    let alive = s.life ∙ ap (λ (b : Bool). if b then Alive else Ended) c.if-not-alive.false in
    let kind : IsClosable c.args.id.kind = c.is_closable.ensures.yes c.if-not-is_closable.false in
    after_close c.requires (sound_of c.args.self.now s.small) (record {
      own = entry_of only_caller (Shut c.args.id) Fine ∷ entry_of only_caller (End c.args.id) Fine ∷ [];
      does = (kind, s.can.may, refl);
      makes = closes c.args.self.now c.finish.new.self c.args.id s.can kind.0 alive c.finish.ensures.holds c.finish.ensures.after;
    })
