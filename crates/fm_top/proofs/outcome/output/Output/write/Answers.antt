use Rattle.fm_io.proofs.Sent.{prefix-after}
use Rattle.fm_top.specs.Ending.{answered_text}
use Rattle.fm_top.proofs.outcome.output.Output.write.Goals as goal

pub returns-in_ok-write-in-Both-clause-prefix : goal.returns-in_ok-write-in-Both-clause-prefix
returns-in_ok-write-in-Both-clause-prefix g c =
    let told = g.O.Sink.view in
    rw (c.in-Both.is)
    (prefix-after (told c.args.out.now).written (told c.write-in-Both.new.out).written (told c.write-in-Both-2.new.out).written (answered_text c.in-Both.first)
    (answered_text c.in-Both.second) c.in_ok-write-in-Both.ensures.whole c.write-in-Both-2.ensures.prefix)
