use Rattle.std.proofs.Common.{refl, ap, sym, subst}
use Rattle.fm_rule.specs.Views.{NoteView}
use Rattle.fm_rule_facts.specs.Views.{View}
use Rattle.fm_segment.specs.Region.{Region}
use Rattle.fm_workers_chunks.specs.{Answering.{AnsweredAndClosed}, Serving.{Serves}, declared.served.Served.{Served}}
use Rattle.fm_workers_chunks.proofs.Meeting.{serves}
use Rattle.fm_workers_chunks.proofs.serving.serve_chunk.Goals as goal

pub returns : goal.returns
returns g c =
    let a = c.answer_and_close-answer in
    let d : Served = record {
      number = c.args.chunk.number;
      arena = c.args.chunk.arena;
      count = c.args.chunk.count;
      answer = a.result;
      note = c.note.result;
    } in
    subst (λ (v : View). Serves c.args.memory.now v c.args.q.now c.args.chunk d) (sym c.note.ensures.pass) (serves d c.requires c.meet.ensures
    (subst (λ (s : Region). AnsweredAndClosed c.meet.new.self a.new.memory c.args.q.now s a.result) c.of-s.ensures a.ensures) (record {
      number = refl;
      arena = refl;
      count = refl;
      home = ap (λ (n : NoteView). n.home) c.note.ensures.note;
      seen = ap (λ (n : NoteView). n.seen) c.note.ensures.note;
    }))
