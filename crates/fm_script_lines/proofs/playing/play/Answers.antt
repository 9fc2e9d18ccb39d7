use Rattle.std.specs.{Prelude.{Vec}, declared.alloc.Global.{Global}}
use Rattle.std.proofs.{Common.{ℕ, ◌+◌, Bool, List, [], Result, drop, refl, take, sym, ◌∙◌, subst, arith, vec_capacity}, lemmas.List.{take_all}}
use Rattle.std.proofs.lemmas.Result.{err_from_is_err_and}
use Rattle.fm_rule_facts.specs.Views.{View}
use Rattle.fm_script_text.specs.{declared.{line.Line.{Line}, who.Who.{Who}}, Syntax.{IsSpelled}}
use Rattle.fm_script_lines.specs.{declared.{reply.Reply.{Reply}, table.Table.{Table}}, Learnt.{AfterLines}, Ordering.{is_by}, Playing.{LinesRan}}
use Rattle.fm_script_lines.{specs.Report.{lines_by}, proofs.Picking.{by_none, by_one, by_room, by_split}}
use Rattle.fm_script_lines.proofs.Rows.{SoFar, lines_none, ran_many, replied_many, so_far_all, so_far_backs, so_far_more, so_far_stops}
use Rattle.fm_script_lines.proofs.playing.play.Goals.{then-is_by+in_ok-reply, else-is_by}
use Rattle.fm_script_lines.proofs.playing.play.Goals as goal

pub loop-line-init : goal.loop-line-init
loop-line-init g c =
    let p = c.args.m.now in
    let t = c.args.table.now in
    record {
      keeps = record { names = refl; base = refl; start = refl; room = refl };
      ran = subst (λ (rs : List Reply). LinesRan p p t.names.now t.base.now t.start t.own.items t.own.items [] rs) (sym c.requires.no_reply)
          (lines_none p t.names.now t.base.now t.start t.own.items c.requires.outside);
      backs = λ holds handles b. b;
      answers = refl;
    }

pub run_line-run-requires : goal.run_line-run-requires
run_line-run-requires g c =
    let i = c.loop-line.invariant in
    let k = c.loop-line.line-index in
    let l : Line = c.line-item.result in
    let r = c.requires.ready in
    record {
      outside = i.ran.outside;
      spelled = subst (λ (x : Line). IsSpelled x.command) (sym c.line-item.is) (c.requires.spelled k l c.loop-line-test.true);
      room =
          let many = ran_many i.ran in
          let more = by_room (is_by c.args.who) c.args.lines.now k l c.loop-line-test.true c.line-item.is (sym c.is_by.ensures ∙ c.if-is_by.true) in
          let room = c.requires.room in
          let same = i.keeps.room in
          omega (arith, many, more, room, same);
      ready = record {
        other_holds = r.other_holds;
        other_handles = r.other_handles;
        backs = so_far_backs i r.other_holds r.other_handles r.backs;
      };
    }

pub push_reserved-requires : goal.push_reserved-requires
push_reserved-requires g c =
    let i = c.loop-line.invariant in
    let many = replied_many i.ran in
    let more = by_room (is_by c.args.who) c.args.lines.now c.loop-line.line-index c.line-item.result c.loop-line-test.true c.line-item.is
    (sym c.is_by.ensures ∙ c.if-is_by.true) in
    let room = c.requires.answers in
    let same = i.answers in
    omega (arith, many, more, room, same)

pub loop-line-preserved : goal.loop-line-preserved
loop-line-preserved g c =
    let p = c.args.m.now in
    let was : Table = c.args.table.now in
    let room : ℕ = vec_capacity c.args.replies.now in
    let is : Who → Bool = is_by c.args.who in
    let ls : List Line = c.args.lines.now in
    let k = c.loop-line.line-index in
    let l : Line = c.line-item.result in
    let i = c.loop-line.invariant in
    let m : View = c.if-is_by.m in
    let t : Table = c.if-is_by.table in
    let rs : Vec Reply Global = c.if-is_by.replies in
    let all : SoFar p was room (lines_by is (take (k + 1) ls)) m t rs = elim c.if-is_by.branch [
      | then-is_by+in_ok-reply w ↦
          let one = so_far_more p was room (lines_by is (take k ls)) c.loop-line.m w.run_line-run.new.m c.loop-line.table w.run_line-run.new.table
          c.loop-line.replies w.push_reserved.new.self l w.in_ok-reply.reply i w.in_ok-reply.ensures w.push_reserved.ensures.items
          w.push_reserved.ensures.capacity in
          let lines = by_one is ls k l c.loop-line-test.true c.line-item.is (sym c.is_by.ensures ∙ w.if-is_by.true) in
          subst (λ (x : Vec Reply Global). SoFar p was room (lines_by is (take (k + 1) ls)) m t x) (sym w.replies-is)
          (subst (λ (x : Table). SoFar p was room (lines_by is (take (k + 1) ls)) m x w.push_reserved.new.self) (sym w.table-is)
          (subst (λ (x : View). SoFar p was room (lines_by is (take (k + 1) ls)) x w.run_line-run.new.table w.push_reserved.new.self) (sym w.m-is)
          (subst (λ (xs : List Line). SoFar p was room xs w.run_line-run.new.m w.run_line-run.new.table w.push_reserved.new.self) (sym lines) one)))
      | else-is_by w ↦
          let lines = by_none is ls k l c.loop-line-test.true c.line-item.is (sym c.is_by.ensures ∙ w.if-is_by.false) in
          subst (λ (x : Vec Reply Global). SoFar p was room (lines_by is (take (k + 1) ls)) m t x) (sym w.replies-is)
          (subst (λ (x : Table). SoFar p was room (lines_by is (take (k + 1) ls)) m x c.loop-line.replies) (sym w.table-is)
          (subst (λ (x : View). SoFar p was room (lines_by is (take (k + 1) ls)) x c.loop-line.table c.loop-line.replies) (sym w.m-is)
          (subst (λ (xs : List Line). SoFar p was room xs c.loop-line.m c.loop-line.table c.loop-line.replies) (sym lines) i)))
    ] in
    all

pub returns-in_err-reply : goal.returns-in_err-reply
returns-in_err-reply g c =
    let p = c.args.m.now in
    let was : Table = c.args.table.now in
    let is : Who → Bool = is_by c.args.who in
    let ls : List Line = c.args.lines.now in
    let k = c.loop-line.line-index in
    let next = c.run_line-run.new.m in
    let after : Table = c.run_line-run.new.table in
    let e = err_from_is_err_and c.from_residual.result c.from_residual.ensures.1 in
    subst (λ (r : Result (Unit {0}) _). AfterLines p next was after (lines_by is ls) c.loop-line.replies.items r) (sym e.1)
    (so_far_stops p was (vec_capacity c.args.replies.now) (lines_by is (take k ls)) (lines_by is (drop (k + 1) ls)) (lines_by is ls) c.loop-line.m next
    c.loop-line.table after c.loop-line.replies c.line-item.result e.0 c.loop-line.invariant c.in_err-reply.ensures
    (by_split is ls k c.line-item.result c.loop-line-test.true c.line-item.is (sym c.is_by.ensures ∙ c.if-is_by.true)))

pub returns : goal.returns
returns g c =
    let p = c.args.m.now in
    let was : Table = c.args.table.now in
    let is : Who → Bool = is_by c.args.who in
    let ls : List Line = c.args.lines.now in
    let room : ℕ = vec_capacity c.args.replies.now in
    let m = c.loop-line.m in
    let t : Table = c.loop-line.table in
    so_far_all p was room (lines_by is ls) m t c.loop-line.replies
    (subst (λ (xs : List Line). SoFar p was room (lines_by is xs) m t c.loop-line.replies)
    (take_all c.loop-line.line-index ls c.loop-line-test.false) c.loop-line.invariant)
