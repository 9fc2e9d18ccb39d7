use Rattle.std.proofs.Common.{◌≡◌, ap, sym, arith}
use Rattle.fm_async.proofs.Counts.{one_left, unfinished-more}
use Rattle.fm_async.proofs.waiting.count_unfinished.Goals.{then-not-is_ended, else-not-is_ended}
use Rattle.fm_async.proofs.waiting.count_unfinished.Goals as goal

pub loop-waiting-preserved : goal.loop-waiting-preserved
loop-waiting-preserved c =
    let more = unfinished-more c.args.closes.now c.loop-waiting.waiting-index c.waiting-item.result c.loop-waiting-test.true c.waiting-item.is in
    elim c.if-not-is_ended.branch [
      | then-not-is_ended w ↦ (let one : one_left c.waiting-item.result.close.ended ≡ 1 = ap one_left (sym w.if-not-is_ended.ensures) in (omega arith, omega arith))
      | else-not-is_ended w ↦ (let none : one_left c.waiting-item.result.close.ended ≡ 0 = ap one_left (sym w.if-not-is_ended.ensures) in (omega arith, omega arith))
    ]
