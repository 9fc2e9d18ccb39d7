use Rattle.std.{proofs.{Common.{List, length, ap, ◌∙◌}, lemmas.{List.{length-map}, Result.{IfOk-weaker}}}, specs.Borrow.{Bor}}
use Rattle.fm_script_text.specs.declared.line.Line.{Line}
use Rattle.fm_script_lines.specs.{declared.{bound.Bound.{Bound}, reply.Reply.{Reply}}, Ordering.{lines_at}}
use Rattle.fm_script.proofs.Ended.{all_opened, arenas_lent, replies_many, replies_put, run_told}
use Rattle.fm_script.proofs.joining.report_run.Goals as goal

pub report_lines-requires : goal.report_lines-requires
report_lines-requires c =
    let order = lines_at c.args.order.now in
    let players = c.args.players.now in
    ap (λ (rs : List Reply). length rs) (replies_put c.args.script.now order c.args.names.now c.args.caller players c.args.main c.args.finished c.requires
    c.as_slice-3.ensures.value c.in_ok-replies.ensures c.as_slice-2.ensures.value)
    ∙ (replies_many c.args.script.now order c.args.names.now c.args.caller players c.args.main c.args.finished c.requires
    ∙ length-map c.args.order.now (λ (l : Bor Line). l.now))

pub of-requires : goal.of-requires
of-requires c =
    all_opened c.args.script.now (lines_at c.args.order.now) c.args.names.now c.args.caller c.args.players.now c.args.main c.args.finished c.requires
    c.as_slice-4.result.now
    (c.as_slice-4.ensures.value ∙ (c.in_ok-opened.ensures ∙ ap (λ (ls : List Bound). arenas_lent ls) c.as_slice.ensures.value))

pub returns : goal.returns
returns c =
    let order = lines_at c.args.order.now in
    let players = c.args.players.now in
    IfOk-weaker c.of.result _ _
    (λ r is. run_told c.args.script.now order c.args.names.now c.args.caller players c.args.main c.args.finished c.requires c.as_slice-4.result.now
    c.in_ok-callers.callers.items c.as_slice-3.result.now c.in_ok-lines.lines.items r
    (c.as_slice-4.ensures.value ∙ (c.in_ok-opened.ensures ∙ ap (λ (ls : List Bound). arenas_lent ls) c.as_slice.ensures.value))
    c.in_ok-callers.ensures
    (replies_put c.args.script.now order c.args.names.now c.args.caller players c.args.main c.args.finished c.requires
    c.as_slice-3.ensures.value c.in_ok-replies.ensures c.as_slice-2.ensures.value)
    c.in_ok-lines.ensures is) c.of.ensures
