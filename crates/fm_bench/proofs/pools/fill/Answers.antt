use Rattle.std.proofs.Common.{arith}
use Rattle.fm_rule_calls.proofs.Lasting.{lasts_then}
use Rattle.fm_bench.proofs.Working.{free_after, nothing_stays}
use Rattle.fm_bench.proofs.pools.fill.Goals as goal

pub returns-in_err-enter : goal.returns-in_err-enter
returns-in_err-enter c =
    let after = c.in_err-enter.ensures in
    free_after c.requires.free after.outside after.did.rest after.lasts

pub loop-word-preserved : goal.loop-word-preserved
loop-word-preserved c =
    let was = c.loop-word.invariant in
    let after = c.swap_if-found.ensures in
    let given = was.1 in
    let more = after.lasts.given c.args.a in
    (after.inside c.args.a was.0, omega (arith, given, more), nothing_stays after.did.rest was.2, lasts_then was.3 after.lasts)

pub returns : goal.returns
returns c =
    let was = c.loop-word.invariant in
    let left = c.leave.ensures in
    record {
      free = record { outside = left.outside; nothing = nothing_stays left.did.rest was.2 };
      lasts = lasts_then was.3 left.lasts;
    }
