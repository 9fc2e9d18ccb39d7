use Rattle.std.proofs.{Common.{List, ap, length, rules, arith}, lemmas.Result.{IfOk-at_ok}}
use Rattle.fm_script_lines.specs.declared.standing.Standing.{Standing}
use Rattle.fm_script.proofs.Fresh.{fresh_ready, played_ready}
use Rattle.fm_script_tests.proofs.tests.lines.run.Goals as goal

pub play-requires : goal.play-requires
play-requires g c =
    let fresh = IfOk-at_ok _ c.expect-table.ensures c.new.ensures in
    record {
      outside = c.requires.outside;
      spelled = search rules;
      room =
          let none = ap (λ (xs : List Standing). length xs) fresh.own in
          let many = c.count_lines-count.ensures in
          let room = fresh.room in
          omega (arith, none, many, room);
      ready = fresh_ready c.args.m.now fresh (λ k d l. absurd (omega (arith, l)));
      no_reply = search rules;
      answers = search rules;
    }

pub settle-requires : goal.settle-requires
settle-requires g c =
    let fresh = IfOk-at_ok _ c.expect-table.ensures c.new.ensures in
    let a = c.play.ensures in
    record {
      outside = a.went.outside;
      ready = played_ready c.args.m.now fresh (λ k d l. absurd (omega (arith, l))) c.play.new.m c.play.new.table a;
      no_other = search rules;
      room =
          let none = ap (λ (xs : List Standing). length xs) fresh.own in
          let many = a.many in
          let count = c.count_lines-count.ensures in
          let room = IfOk-at_ok _ c.expect-others.ensures c.with_capacity-2.ensures.capacity in
          omega (arith, none, many, count, room);
    }
