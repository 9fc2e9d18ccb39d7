use Rattle.std.proofs.{Common.{List, length, [], Result, refl, sym, ap, subst, arith}, lemmas.Result.{err_from_is_err_and, on_ok_weaker}}
use Rattle.fm_script_lines.specs.{declared.{numbers.Numbers.{Numbers}, standing.Standing.{Standing}}, Playing.{LinesRan}}
use Rattle.fm_script.{specs.{declared.player.Player.{Player}, Players.{PlayedAs, lines_for, playing}}, proofs.Fresh.{fresh_ready, played_backs, played_ready}}
use Rattle.fm_script.proofs.{Passing.{ran_from}, Running.{all_spelled}, Worker.{played_as, played_none}}
use Rattle.fm_script.proofs.lines.play_as.Goals as goal

pub returns-in_err-table : goal.returns-in_err-table
returns-in_err-table g c =
    let w = playing c.args.names.now c.args.lines.now c.args.firsts.now in
    let m = c.args.memory.now in
    let player = c.args.player.now in
    let p = err_from_is_err_and c.from_residual.result c.from_residual.ensures.1 in
    subst (λ (r : Result (Unit {0}) _). PlayedAs w m m player player r) (sym p.1) (played_none w m player p.0 c.requires.outside)

pub play-played-requires : goal.play-played-requires
play-played-requires g c =
    let m = c.args.memory.now in
    let e = c.in_ok-table.ensures in
    let p = c.requires.can.player in
    record {
      outside = c.requires.outside;
      spelled = all_spelled c.args.lines.now c.requires.can.rules;
      room =
          let none = ap (λ (xs : List Standing). length xs) e.own in
          let many = c.count_lines-count.ensures in
          let room = e.room in
          omega (arith, none, many, room);
      ready = fresh_ready m e c.requires.can.known;
      no_reply = p.no_reply;
      answers = p.room;
    }

pub settle-requires : goal.settle-requires
settle-requires g c =
    let m = c.args.memory.now in
    let q = c.play-played.new.m in
    let u = c.play-played.new.table in
    let e = c.in_ok-table.ensures in
    let a = c.play-played.ensures in
    let p = c.requires.can.player in
    record {
      outside = a.went.outside;
      ready = played_ready m e c.requires.can.known q u a;
      no_other = p.no_name;
      room =
          let none = ap (λ (xs : List Standing). length xs) e.own in
          let many = a.many in
          let room = p.names_room in
          omega (arith, none, many, room);
    }

pub returns : goal.returns
returns g c =
    let w = playing c.args.names.now c.args.lines.now c.args.firsts.now in
    let m = c.args.memory.now in
    let q = c.play-played.new.m in
    let t = c.in_ok-table.table in
    let u = c.play-played.new.table in
    let old : Player = c.args.player.now in
    let e = c.in_ok-table.ensures in
    let a = c.play-played.ensures in
    let s = c.settle.ensures in
    let backs = played_backs m e c.requires.can.known q u a in
    let new : Player = record old { replies = c.play-played.new.replies; lent = c.settle.new.others } in
    played_as w m q c.settle.new.m old new u.own.items c.play-played.result c.requires.can refl refl
    (on_ok_weaker c.play-played.result
    (λ ran. ran_from m q c.args.names.now t.base.now c.args.firsts.now t.start old.start t.own.items [] u.own.items (lines_for w old)
    c.play-played.new.replies.items e.base e.start e.own
    (subst (λ (ns : Numbers). LinesRan m q ns t.base.now t.start t.own.items u.own.items (lines_for w old) c.play-played.new.replies.items) e.names ran))
    a.ran)
    a.went s.went s.spent (s.left m.holds m.handles backs) s.others
