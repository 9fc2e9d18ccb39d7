use Rattle.std.proofs.Common.{refl, arith}
use Rattle.fm_io.proofs.Left.{leaves_none}
use Rattle.fm_top_load.proofs.Telling.{tells_none}
use Rattle.fm_top_stream.proofs.{Asks.{answers_ahead}, Chunking.{tells_no_memory}}
use Rattle.fm_top_stream.proofs.answering.answer_chunk.Goals as goal

pub returns-clause-answers : goal.returns-clause-answers
returns-clause-answers g c =
    answers_ahead c.requires c.open_chunk-arena.ensures c.give_chunk.ensures _ refl refl (omega (arith, c.len.ensures, c.if-len-eq0.false)) c.ask_beside.result
    c.ask_beside.ensures.asks

pub returns-in-Ok-clause-tells : goal.returns-in-Ok-clause-tells
returns-in-Ok-clause-tells g c = tells_none (leaves_none (g.F.Files.view c.args.files.now) (λ e. e) (λ e. e))

pub returns-in-Err-clause-tells : goal.returns-in-Err-clause-tells
returns-in-Err-clause-tells g c = tells_no_memory (g.F.Files.view c.args.files.now) tt

pub returns-clause-tells : goal.returns-clause-tells
returns-clause-tells g c = c.ask_beside.ensures.tells
