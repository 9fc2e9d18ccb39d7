use Rattle.std.proofs.Common.{arith}
use Rattle.fm_c_calls.specs.Whole.{too_many, uneven}
use Rattle.fm_c_calls.proofs.whole.check_records.Goals as goal

pub returns-then-length-gt-RECORD_FILE_LIMIT : goal.returns-then-length-gt-RECORD_FILE_LIMIT
returns-then-length-gt-RECORD_FILE_LIMIT c = too_many (omega (arith, c.if-length-gt-RECORD_FILE_LIMIT.true))

pub returns-then-rest-ne0 : goal.returns-then-rest-ne0
returns-then-rest-ne0 c = uneven (omega (arith, c.if-length-gt-RECORD_FILE_LIMIT.false)) c.if-rest-ne0.true
