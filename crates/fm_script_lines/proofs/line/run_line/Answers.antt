use Rattle.std.proofs.{Common.{Result, subst, sym}, lemmas.Result.{err_from_is_err_and}}
use Rattle.fm_script_lines.{specs.{declared.reply.Reply.{Reply}, Learnt.{AfterLine}}, proofs.Returning.{keeps_then, line_backs, line_ran, line_wanted}}
use Rattle.fm_script_lines.proofs.line.run_line.Goals as goal

pub returns-in_err-out : goal.returns-in_err-out
returns-in_err-out g c =
    let p = c.args.m.now in
    let was = c.args.table.now in
    let e = err_from_is_err_and c.from_residual.result c.from_residual.ensures.1 in
    subst (λ (r : Result Reply _). AfterLine p c.call.new.m was c.call.new.table c.args.command.now r) (sym e.1)
    (line_wanted p c.call.new.m was c.call.new.table c.args.command.now e.0 c.in_err-out.ensures.no_call)

pub returns : goal.returns
returns g c =
    let p = c.args.m.now in
    let q = c.call.new.m in
    let was = c.args.table.now in
    let left = c.call.new.table in
    let now = c.take_in.new.self in
    let l = c.in_ok-out.ensures.leaves in
    let own = c.take_in.ensures.own in
    let ran = c.in_ok-out.ensures.ran in
    record {
      keeps = keeps_then l.keeps c.take_in.ensures.keeps;
      ran = line_ran p q was left now c.args.command.now c.in_ok-out.out c.take_in.result l own ran c.take_in.ensures.reply;
      backs = line_backs p q was left now c.args.command.now c.in_ok-out.out c.take_in.result l own ran;
      no_call = tt;
    }
