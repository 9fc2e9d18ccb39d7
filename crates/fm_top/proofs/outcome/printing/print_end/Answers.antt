use Rattle.fm_top.proofs.Printed.{prints_by}
use Rattle.fm_top.proofs.outcome.printing.print_end.Goals as goal

pub returns-in-Ok-clause-prints : goal.returns-in-Ok-clause-prints
returns-in-Ok-clause-prints g c =
    rw (c.in-Ok.is, c.status_by.ensures) (prints_by _ c.write.result c.write.ensures.whole c.write.ensures.prefix c.write.ensures.counted)

pub returns-in-Err-clause-prints : goal.returns-in-Err-clause-prints
returns-in-Err-clause-prints g c =
    rw (c.in-Err.is, c.status_by-in-Err.ensures, c.status.ensures) (prints_by _ c.write_stop.result c.write_stop.ensures.whole c.write_stop.ensures.prefix
    c.write_stop.ensures.counted)
