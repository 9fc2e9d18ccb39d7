-- A worker can play later too.
use Rattle.std.proofs.Common.{get_or, le_trans}
use Rattle.fm_rule_facts.specs.Views.{View}
use Rattle.fm_rule_calls.specs.Kept.{Lasts}
use Rattle.fm_script_lines.specs.{Standings.{IsBacked, lent}, declared.standing.Standing.{Standing}}
use Rattle.fm_script_lines.specs.declared.standing.Standing.TheVariants as standing
use Rattle.fm_script.specs.{declared.player.Player.{Player}, Players.{CanPlay, Playing}}

-- What others may use is known later too.
pub lent_later : (p q : View) → Lasts p q → (s : Standing) → IsBacked p (lent s) → IsBacked q (lent s)
lent_later p q l standing.Nothing b = tt
lent_later p q l (standing.Arena id) b = l.known id b
lent_later p q l (standing.Automatic id handle) b = l.known id b
lent_later p q l (standing.Segment r) b =
    record { arena = l.known r.arena b.arena; given = le_trans b.given (l.given r.arena) }
lent_later p q l (standing.Hold hold) b = tt
lent_later p q l (standing.Handle handle) b = tt

pub can_play_later : (w : Playing) (p q : View) (t : Player) → Lasts p q → CanPlay w p t → CanPlay w q t
can_play_later w p q t l c = record {
  rules = c.rules;
  known = λ k d below. lent_later p q l (get_or w.firsts k d) (c.known k d below);
  worker = c.worker;
  player = c.player;
  behind = c.behind;
  numbered = c.numbered;
}
