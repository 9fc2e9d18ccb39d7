use Rattle.std.proofs.Common.{List, ap, subst, arith}
use Rattle.fm_base.specs.Calls.{Entry}
use Rattle.fm_rule.specs.{Views.{NoteView}, Passes.{GoesOnFrom}}
use Rattle.fm_arena_tests.proofs.tests.cut_off.scene.told.Goals as goal

pub returns-clause-can : goal.returns-clause-can
returns-clause-can c =
    let law = c.a_crew_stands.ensures in
    let on = subst (λ (es : List Entry). GoesOnFrom es c.meet.new.pass.seen) (ap (λ (n : NoteView). n.seen) c.note-note.ensures.note) c.meet.ensures.met in
    let stands = law.at_meeting c.args.pool.now _ _ c.meet.ensures.stepped in
    let lasts = law.seen c.args.pool.now c.args.ours.now _ c.requires.ours (stands.of c.requires.outside.of) c.meet.ensures.stepped.sound on in
    record { outside = stands.outside c.requires.outside; known = lasts.known c.args.s.now.arena c.requires.known.arena }

pub returns-clause-given : goal.returns-clause-given
returns-clause-given c =
    let law = c.a_crew_stands.ensures in
    let on = subst (λ (es : List Entry). GoesOnFrom es c.meet.new.pass.seen) (ap (λ (n : NoteView). n.seen) c.note-note.ensures.note) c.meet.ensures.met in
    let stands = law.at_meeting c.args.pool.now _ _ c.meet.ensures.stepped in
    let lasts = law.seen c.args.pool.now c.args.ours.now _ c.requires.ours (stands.of c.requires.outside.of) c.meet.ensures.stepped.sound on in
    let more = lasts.given c.args.s.now.arena in
    let given = c.requires.known.given in omega (arith, more, given)
