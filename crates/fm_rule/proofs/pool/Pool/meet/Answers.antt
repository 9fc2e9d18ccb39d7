use Rattle.std.proofs.Common.{ap, ◌∙◌, subst}
use Rattle.fm_rule_facts.specs.Views.{View}
use Rattle.fm_rule_steps.proofs.Splitting.{meet_joins}
use Rattle.fm_rule.{specs.{Passes.{GoesOnFrom}, Views.{NoteView, numbers_of}}, proofs.{Knowing.{one_table, in_pool}, Making.{can_look}}}
use Rattle.fm_rule.proofs.Noting.{some_words, meet_met, meet_stepped, meet_keeps}
use Rattle.fm_rule.proofs.pool.Pool.meet.Goals as goal

pub join_seat-requires : goal.join_seat-requires
join_seat-requires c = (
  one_table _ _ (ap (λ (x : View). x.home) c.pass.view_is ∙ c.requires.pass.0),
  one_table _ _ (ap (λ (x : NoteView). x.home) c.note.view_is ∙ c.requires.note),
  c.note.invariant.1,
  some_words _ _ c.args.self.now.sized,
  λ s h at ne at'. meet_joins _ _ _ h _ _ _ _ at ne at' c.note.invariant.0,
)

pub load_as-requires-clause-can : goal.load_as-requires-clause-can
load_as-requires-clause-can c =
    can_look (c.join_seat.ensures.0 ∙ in_pool _ c.pass.inside.seat.me.0 _ c.args.self.now c.pass.view_is c.requires.pass)
    ((λ j. (c.join_seat.ensures.2 j).0.live) ∙ c.pass.invariant.live) c.front_place-place.ensures

pub invariant_of-pass : goal.invariant_of-pass
invariant_of-pass c =
    meet_keeps c.note.inside.seat.me.0 c.pass.invariant (λ j. (c.join_seat.ensures.2 j).0) c.load_as.ensures.tells
    (c.load_as.ensures.slots ∙ (λ j. (c.join_seat.ensures.2 j).1))

pub returns-clause-stepped : goal.returns-clause-stepped
returns-clause-stepped c =
    meet_stepped _ _ c.note.inside.seat.me.0 _ _ _ _ _ c.pass.view_is (ap numbers_of (c.load_as.ensures.table
    ∙ c.join_seat.ensures.0)) c.pass.invariant.met (λ j. (c.join_seat.ensures.2 j).0) c.load_as.ensures.tells

pub returns-clause-met : goal.returns-clause-met
returns-clause-met c =
    subst (λ (y : NoteView). GoesOnFrom y.seen c.load_as.new.seat.me.0.seen) c.note.view_is
    (meet_met _ c.note.inside.seat.me.0 _ _ _ (λ j. (c.join_seat.ensures.2 j).0) c.load_as.ensures.tells)
