use Rattle.std.proofs.Common.{◌++◌, [], arith}
use Rattle.fm_base.proofs.{Making.{Makes-none}, Outcomes.{Makes-lasts}}
use Rattle.fm_workers.{specs.Adding.{none_yet}, proofs.Increments.{added_all, added_more, added_stops, can_add_still}}
use Rattle.fm_workers.proofs.adding.add_counts.Goals as goal

pub loop-place-init : goal.loop-place-init
loop-place-init g c =
    let v = g.M.Memory.view c.args.m.now in
    record { own = []; added = record { makes = Makes-none v; added = none_yet }; can = c.requires }

pub returns-in-Err-clause-did : goal.returns-in-Err-clause-did
returns-in-Err-clause-did g c =
    added_stops c.at.result c.in-Err.refusal (omega (arith, c.loop-place-test.true)) c.loop-place.invariant.added c.in-Err.ensures.did

pub loop-place-preserved : goal.loop-place-preserved
loop-place-preserved g c =
    let v = g.M.Memory.view in
    let i = c.loop-place.invariant in
    let d = c.in-Ok.ensures.did in
    record {
      own = i.own ++ d.own;
      added = added_more i.added c.at.ensures d;
      can = can_add_still i.can (Makes-lasts (v c.loop-place.m) (v c.add_at.new.m) d.own d.makes) d.makes c.in-Ok.ensures.outside;
    }

pub returns-clause-did : goal.returns-clause-did
returns-clause-did g c = added_all c.loop-place.invariant.added (omega (arith, c.loop-place-test.false))
