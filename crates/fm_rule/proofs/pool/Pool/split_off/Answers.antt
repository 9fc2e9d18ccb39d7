use Rattle.fm_rule.{proofs.{Knowing.{one_table}, Allowed.{sound_homed}, Noting.{some_words}}, specs.Views.{inside_of, no_part, Keeps}}
use Rattle.fm_rule.proofs.Halves.{left_keeps, right_keeps, right_sound}
use Rattle.std.proofs.Common.{ap, sym, ◌∙◌, subst, None}
use Rattle.fm_rule_facts.specs.Views.{View, IsSound}
use Rattle.fm_rule_steps.proofs.Halving.{draw_splits}
use Rattle.fm_rule.proofs.pool.Pool.split_off.Goals as goal

pub split_seat-seat-requires : goal.split_seat-seat-requires
split_seat-seat-requires c = (
  one_table _ _ (ap (λ (x : View). x.home) c.giver.view_is ∙ c.requires.of.0),
  some_words _ _ c.args.self.now.sized,
  λ s h at. draw_splits _ _ _ h _ _ c.args.caller at c.giver.invariant.live (ap (λ (x : View). x.number) c.giver.view_is ∙ c.requires.drawn),
)

pub invariant_of-giver : goal.invariant_of-giver
invariant_of-giver c =
    subst (Keeps c.giver.inside.caller (inside_of c.giver.inside.is_inside c.giver.inside.current) (c.giver.inside.part, c.giver.inside.other) c.giver.inside.gathered)
    (sym c.split_seat-seat.ensures.2) (left_keeps _ _ _ _ _ _ (ap (λ (x : View). x.whole) c.giver.view_is ∙ c.requires.drew) c.giver.invariant)

pub invariant_of-result : goal.invariant_of-result
invariant_of-result c =
    subst (Keeps c.args.caller None (no_part, no_part) 0) (sym c.split_seat-seat.ensures.4)
    (right_keeps c.args.caller c.giver.inside.seat.me.0 (ap (λ (x : View). x.number) c.giver.view_is ∙ c.requires.drawn) c.giver.invariant.sound)

pub returns-clause-sound : goal.returns-clause-sound
returns-clause-sound c =
    sound_homed _ _ (subst IsSound (λ j. (sym c.split_seat-seat.ensures.4 j).0)
    (right_sound c.giver.inside.seat.me.0 c.args.caller (ap (λ (x : View). x.number) c.giver.view_is ∙ c.requires.drawn) c.giver.invariant.sound))
