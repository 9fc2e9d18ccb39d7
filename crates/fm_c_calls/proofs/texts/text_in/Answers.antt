use Rattle.std.proofs.Common.{sym}
use Rattle.fm_c_calls.proofs.Told.{told_text, told_none, told_endless}
use Rattle.fm_c_calls.proofs.texts.text_in.Goals as goal

pub returns-in-Ok-clause-text : goal.returns-in-Ok-clause-text
returns-in-Ok-clause-text c =
    told_text c.bytes_have_one_text.ensures c.args.bytes.now c.in-Ok.text.now c.in-Some.end (sym c.in-Some.ensures.first) c.in-Ok.ensures.text c.in-Ok.ensures.utf8

pub returns-in-Err-clause-refused : goal.returns-in-Err-clause-refused
returns-in-Err-clause-refused c =
    told_none c.bytes_have_one_text.ensures c.args.bytes.now c.in-Some.end c.in-Err.refusal (sym c.in-Some.ensures.first) c.in-Err.ensures.refused

pub returns-in-None-clause-refused : goal.returns-in-None-clause-refused
returns-in-None-clause-refused c = told_endless c.bytes_have_one_text.ensures c.args.bytes.now (sym c.in-None.ensures.first)
