use Rattle.fm_rule.{proofs.{Knowing.{one_table}, Resting.{finished}}, specs.Views.{NoteView}}
use Rattle.std.{proofs.Common.{refl, ap, sym, ◌∙◌}, specs.Mem.Slots.{slots_items}}
use Rattle.fm_rule_facts.specs.Views.{View}
use Rattle.fm_rule.proofs.pool.Pool.finish.Goals as goal

pub close_with-closed-requires : goal.close_with-closed-requires
close_with-closed-requires c =
    one_table _ _ (ap (λ (x : View). x.home) c.pass.view_is ∙ (ap (λ (x : View). x.home) c.note-note.ensures.pass ∙ c.requires.of.0))

pub invariant_of-result : goal.invariant_of-result
invariant_of-result c = (c.close_with-closed.ensures.values.0, (c.close_with-closed.ensures.counts.1 ∙ c.args.self.slotless, tt))

pub invariant_of-result-2 : goal.invariant_of-result-2
invariant_of-result-2 c =
    let shape = c.args.self.shape in
    let seen = c.note-note.result.seen in
    let closed = c.close_with-closed.result in
    finished shape c.args.self.table.shared.key c.pass.inside.seat.id c.pass.inside.seat.me.0 c.note-note.new.pass _ (slots_items closed.words)
    (slots_items closed.slots) seen c.pass.view_is c.args.self.shape_is
    (ap (λ (x : View). x.shape) c.pass.view_is ∙ (ap (λ (x : View). x.shape) c.note-note.ensures.pass ∙ c.requires.of.1))
    c.close_with-closed.ensures.values.2 c.pass.invariant.live c.pass.invariant.sound
    (ap (λ (x : View). x.whole) c.note-note.ensures.pass ∙ c.requires.whole)
    (ap (λ (x : View). x.hand) c.note-note.ensures.pass ∙ c.requires.no_slot)
    (ap (λ (n : NoteView). n.seen) c.note-note.ensures.note ∙ sym (ap (λ (x : View). x.seen) c.note-note.ensures.pass))

pub returns-clause-finishes : goal.returns-clause-finishes
returns-clause-finishes c = record {
  shape = refl;
  history = ap (λ (n : NoteView). n.seen) c.note-note.ensures.note;
  finished = invariant_of-result-2 c;
}
