use Rattle.std.proofs.Common.{List, ap, subst}
use Rattle.fm_base.specs.Calls.{Entry}
use Rattle.fm_rule.specs.{Views.{NoteView}, Passes.{GoesOnFrom}}
use Rattle.fm_gate_tests.proofs.tests.gates.crews.tell.Goals as goal

pub returns-clause-lasts : goal.returns-clause-lasts
returns-clause-lasts c =
    let law = c.a_crew_stands.ensures in
    let on = subst (λ (es : List Entry). GoesOnFrom es c.meet.new.pass.seen) (ap (λ (n : NoteView). n.seen) c.note-note.ensures.note) c.meet.ensures.met in
    let stands = law.at_meeting c.args.pool.now _ _ c.meet.ensures.stepped in
    law.seen c.args.pool.now c.args.from.now _ c.requires.from.outside.of (stands.of c.requires.to.of) c.meet.ensures.stepped.sound on

pub returns-clause-to : goal.returns-clause-to
returns-clause-to c = record {
  outside = (c.a_crew_stands.ensures.at_meeting c.args.pool.now _ _ c.meet.ensures.stepped).outside c.requires.to;
  known = (returns-clause-lasts c).known _ c.requires.from.known;
}
