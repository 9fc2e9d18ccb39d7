use Rattle.fm_rule_calls.proofs.Lasting.{lasts_then}
use Rattle.fm_bench.proofs.Working.{free_after, nothing_stays}
use Rattle.fm_bench.proofs.gates.visit.Goals as goal

pub returns-in_err-enter : goal.returns-in_err-enter
returns-in_err-enter c =
    let after = c.in_err-enter.ensures in
    free_after c.requires.free after.outside after.did.rest after.lasts

pub act_inside-found-requires-clause-nothing : goal.act_inside-found-requires-clause-nothing
act_inside-found-requires-clause-nothing c = nothing_stays c.in_ok-enter.ensures.did.rest c.requires.free.nothing

pub returns : goal.returns
returns c =
    let did = c.act_inside-found.ensures in
    let left = c.leave.ensures in
    record {
      free = record { outside = left.outside; nothing = nothing_stays left.did.rest did.nothing };
      lasts = lasts_then (lasts_then c.enter.ensures.lasts did.lasts) left.lasts;
    }
