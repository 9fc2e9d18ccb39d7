use Rattle.std.proofs.Common.{◌≡◌, Err, refl, rules}
use Rattle.fm_top.{specs.Words.{Sum, Layout, Run}, proofs.{Ends.{asked_file, shows_none}, ReadFor.{no_reads}}}
use Rattle.fm_top.specs.declared.outcome.stop.Stop.TheVariants.{Memory}
use Rattle.fm_top.proofs.outcome.command_reply.Goals as goal

pub returns-in-Sum : goal.returns-in-Sum
returns-in-Sum g c =
    let sum = c.in-Sum.sum in
    rw c.in-Sum.is (asked_file (Sum sum.size sum.at sum.kind sum.file.now) refl c.sum_reply.ensures)

pub returns-in-Layout : goal.returns-in-Layout
returns-in-Layout g c =
    let layout = c.in-Layout.layout in
    rw c.in-Layout.is (asked_file (Layout layout.text layout.file.now) refl c.layout_reply.ensures)

pub returns-in-Run : goal.returns-in-Run
returns-in-Run g c = rw c.in-Run.is (asked_file (Run c.in-Run.run'.file.now) refl c.script_reply.ensures)

pub returns-in_ok-demo_reply-in-Demo : goal.returns-in_ok-demo_reply-in-Demo
returns-in_ok-demo_reply-in-Demo g c =
    rw c.in-Demo.is (record { outcome = c.in_ok-demo_reply-in-Demo.ensures; reads = no_reads; files = shows_none _ tt })

pub returns-in_err-demo_reply-in-Demo : goal.returns-in_err-demo_reply-in-Demo
returns-in_err-demo_reply-in-Demo g c =
    let wants : c.from_residual.result ≡ Err Memory = search rules in
    rw wants (record { outcome = tt; reads = no_reads; files = shows_none (Err Memory) tt })
