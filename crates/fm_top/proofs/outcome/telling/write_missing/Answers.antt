use Rattle.std.proofs.Common.{codes}
use Rattle.fm_io.proofs.Sent.{prefix-after, prefix-more}
use Rattle.fm_top.specs.Outcome.{line}
use Rattle.fm_top.proofs.outcome.telling.write_missing.Goals as goal

pub returns-in_err-write_text-clause-prefix : goal.returns-in_err-write_text-clause-prefix
returns-in_err-write_text-clause-prefix g c =
    let told = g.O.Sink.view in
    prefix-more (told c.args.out.now).written (told c.write_text.new.out).written (codes "missing ") (line c.args.file.now) c.write_text.ensures.prefix

pub returns-clause-prefix : goal.returns-clause-prefix
returns-clause-prefix g c =
    let told = g.O.Sink.view in
    prefix-after (told c.args.out.now).written (told c.write_text.new.out).written (told c.write_name.new.out).written (codes "missing ") (line c.args.file.now)
    c.in_ok-write_text.ensures.whole c.write_name.ensures.prefix
