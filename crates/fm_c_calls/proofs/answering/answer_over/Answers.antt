use Rattle.std.proofs.{Common.{arith}, lemmas.Result.{err_from_is_err_and}}
use Rattle.fm_c_calls.{specs.Held.{too_many, no_memory}, proofs.Querying.{answers, refuses}}
use Rattle.fm_c_calls.proofs.answering.answer_over.Goals as goal

pub returns-then-records-gt-RECORD_FILE_LIMIT-clause-refused : goal.returns-then-records-gt-RECORD_FILE_LIMIT-clause-refused
returns-then-records-gt-RECORD_FILE_LIMIT-clause-refused c = too_many (omega (arith, c.if-records-gt-RECORD_FILE_LIMIT.true))

pub returns-in_err-memory-clause-refused : goal.returns-in_err-memory-clause-refused
returns-in_err-memory-clause-refused c =
    let p = err_from_is_err_and c.from_residual.result c.from_residual.ensures.1 in
    rw (p.1, p.2, c.in_err-memory.ensures.memory) no_memory

pub returns-clause-answer : goal.returns-clause-answer
returns-clause-answer c =
    answers c.in_ok-memory.ensures.holds (omega (arith, c.if-records-gt-RECORD_FILE_LIMIT.false)) c.query_segment.result c.query_segment.ensures

pub returns-clause-refused : goal.returns-clause-refused
returns-clause-refused c =
    refuses c.in_ok-memory.ensures.holds (omega (arith, c.if-records-gt-RECORD_FILE_LIMIT.false)) c.query_segment.result c.query_segment.ensures
