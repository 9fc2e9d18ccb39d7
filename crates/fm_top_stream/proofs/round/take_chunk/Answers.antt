use Rattle.std.proofs.Common.{Option, Some, length, sym, subst}
use Rattle.fm_io.{specs.Files.{Contents}, proofs.Left.{leaves_then}}
use Rattle.fm_top_load.{specs.{declared.load_fault.LoadFault.{LoadFault}, Whole.{ByReads, TellsLoad}}, proofs.Telling.{read_quietly, tells_memory, tells_then}}
use Rattle.fm_top_stream.{specs.Steps.{AnswersOn}, proofs.{Chunking.{further_some, further_then}, GoesOn.{can_answer, goes_by, goes_on, next_joins}}}
use Rattle.fm_top_stream.proofs.round.take_chunk.Goals as goal

pub returns-in-Err-answer_chunk-clause-reads : goal.returns-in-Err-answer_chunk-clause-reads
returns-in-Err-answer_chunk-clause-reads g c =
    further_some c.args.stretch.now.limit (further_then c.args.stretch.now.limit c.in_default.ensures.reads c.in-Err-answer_chunk.ensures.reads)

pub answer_chunk-requires-after_bounds : goal.answer_chunk-requires-after_bounds
answer_chunk-requires-after_bounds g c κs within = can_answer c.requires c.of-s.ensures (read_quietly c.in_default.ensures.tells).held c.in_default.ensures.took

pub join_answers-requires : goal.join_answers-requires
join_answers-requires g c =
    let crew = c.args.crew.now in
    let ahead = c.in-Ok.ahead in
    let answers = subst (λ (told : Option Contents). AnswersOn c.args.going.pass.shape.passes c.args.stretch.now told crew.pool.now c.args.going.pass ahead.pass c.of-s.result
    crew.q.now ahead.answer ahead.next) (read_quietly c.in_default.ensures.tells).held c.in-Ok.ensures.answers.answers in
    next_joins c.requires c.of-s.ensures answers c.close_chunk.ensures

pub returns-in-Ok-join_answers-clause-goes : goal.returns-in-Ok-join_answers-clause-goes
returns-in-Ok-join_answers-clause-goes g c =
    let crew = c.args.crew.now in
    let ahead = c.in-Ok.ahead in
    let after = c.in-Ok.ensures.answers in
    let answers = subst (λ (told : Option Contents). AnswersOn c.args.going.pass.shape.passes c.args.stretch.now told crew.pool.now c.args.going.pass ahead.pass c.of-s.result
    crew.q.now ahead.answer ahead.next) (read_quietly c.in_default.ensures.tells).held after.answers in
    let on = c.in-Ok-join_answers.ensures.joined in
    goes_by c.requires c.of-s.ensures answers c.close_chunk.ensures c.in-Ok-join_answers.going on.pass on.answer
    (goes_on c.args.standing.chunk.ended (length c.read_next.new.portion.bytes) ahead.next after.some c.in_default.ensures.none)

pub returns-in-Ok-join_answers-clause-reads : goal.returns-in-Ok-join_answers-clause-reads
returns-in-Ok-join_answers-clause-reads g c = further_then c.args.stretch.now.limit c.in_default.ensures.reads c.in-Ok.ensures.reads

pub returns-in-Err-join_answers-clause-reads : goal.returns-in-Err-join_answers-clause-reads
returns-in-Err-join_answers-clause-reads g c =
    further_some c.args.stretch.now.limit (further_then c.args.stretch.now.limit c.in_default.ensures.reads c.in-Ok.ensures.reads)

pub returns-in-Err-join_answers-clause-tells : goal.returns-in-Err-join_answers-clause-tells
returns-in-Err-join_answers-clause-tells g c =
    let stretch = c.args.stretch.now in
    subst (λ (fault : LoadFault). TellsLoad ByReads stretch.limit (g.F.Files.view c.args.files.now) (g.F.Files.view c.answer_chunk.new.files) stretch.name.now (Some fault))
    (sym c.in-Err-join_answers.ensures.memory) (tells_memory tt (leaves_then (read_quietly c.in_default.ensures.tells) (read_quietly c.in-Ok.ensures.tells)))

pub returns-in-Ok-join_answers-clause-tells : goal.returns-in-Ok-join_answers-clause-tells
returns-in-Ok-join_answers-clause-tells g c = tells_then (read_quietly c.in_default.ensures.tells) c.in-Ok.ensures.tells

pub returns-in-Err-answer_chunk-clause-tells : goal.returns-in-Err-answer_chunk-clause-tells
returns-in-Err-answer_chunk-clause-tells g c = tells_then (read_quietly c.in_default.ensures.tells) c.in-Err-answer_chunk.ensures.tells
