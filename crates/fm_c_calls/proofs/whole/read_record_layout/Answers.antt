use Rattle.fm_c_calls.specs.Whole.{no_record}
use Rattle.fm_c_calls.proofs.whole.read_record_layout.Goals as goal

pub returns-in-Err-clause-refused : goal.returns-in-Err-clause-refused
returns-in-Err-clause-refused c = no_record c.in_ok-layout.layout c.in_ok-layout.ensures.layout c.in-Err.ensures
