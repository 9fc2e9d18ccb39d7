use Rattle.std.proofs.Common.{ap}
use Rattle.fm_top.proofs.Ran.{ran}
use Rattle.fm_top.proofs.run.run_tool.Goals as goal

pub returns-clause-ran : goal.returns-clause-ran
returns-clause-ran g c =
    let print = c.print_end-status.ensures in
    rw (c.of.ensures, c.code.ensures) (ran c.reply_of-end.result c.reply_of-end.ensures.ends print.prints print.left
    (λ untold. (ap g.O.Sink.view (print.untold untold).0, (print.untold untold).1)) print.missing print.quiet print.faults_stay)
