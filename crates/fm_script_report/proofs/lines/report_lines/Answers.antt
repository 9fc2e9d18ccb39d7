-- One more line is told by its text and its reply.
use Rattle.std.proofs.Common.{◌≡◌, ◌<◌, ◌+◌, List, [], ◌∷◌, ◌++◌, length, get_or, map, take, sym, ap, ◌∙◌, subst, arith}
use Rattle.std.proofs.lemmas.List.{get_or-map, get_or_default, length-map}
use Rattle.fm_script_lines.specs.declared.reply.Reply.{Reply, TheVariants.{Fine}}
use Rattle.fm_script_text.specs.declared.line.Line.{Line}
use Rattle.fm_script_report.{specs.{declared.line.ReportLine.{ReportLine}, Told.{AreTold}}, proofs.Joining.{told_more}}
use Rattle.fm_script_report.proofs.lines.report_lines.Goals as goal

pub loop-k-preserved : goal.loop-k-preserved
loop-k-preserved c =
    let k = c.loop-k.k in
    let replies = c.args.replies.now in
    let lines : List Line = map (λ x. x.now) c.args.order.now in
    let line : Line = c.index-order-k.result.now in
    let reply : Reply = get_or replies k Fine in
    let below = c.loop-k-test.true in
    let many : length lines ≡ length c.args.order.now = length-map c.args.order.now (λ x. x.now) in
    let one : k < length lines = omega (arith, below, many) in
    let equal = c.requires in
    let other : k < length replies = omega (arith, below, equal) in
    let is_line : line ≡ get_or lines k line =
    ap (λ x. x.now) c.index-order-k.is ∙ sym (get_or-map (λ x. x.now) c.args.order.now k c.index-order-k.result line below) in
    let is_reply : reply ≡ get_or replies k reply = get_or_default replies k Fine reply other in
    let more = told_more c.loop-k.lines.items k lines replies line reply c.loop-k.invariant.told one other is_line is_reply in
    let room = c.loop-k.invariant.room in
    let pushed = c.push_reserved.ensures.len in
    let space = c.push_reserved.ensures.capacity in
    let line_is = c.in_ok-report_line.ensures in
    record {
      told = subst (λ (ts : List ReportLine). AreTold (take (k + 1) lines) (take (k + 1) replies) ts)
          (sym (c.push_reserved.ensures.items ∙ ap (λ (t : ReportLine). c.loop-k.lines.items ++ t ∷ []) line_is)) more;
      room = omega (arith, room, pushed, space, below);
    }
