use Rattle.std.proofs.Common.{◌≤◌, sym, ◌∙◌, arith}
use Rattle.fm_words.proofs.Marks.{mark_of-halves, mark_of-none, mark_word-halves}
use Rattle.fm_words.proofs.mark.mark_of.Goals as goal

pub returns-in_err-slot-clause-mark : goal.returns-in_err-slot-clause-mark
returns-in_err-slot-clause-mark c =
    let none : ¬ (1 ≤ c.halves-high.result.0) = c.in_err-slot.ensures in
    let high = c.halves-high.ensures.high in
    c.from_residual.ensures ∙ sym (mark_of-none c.args.word (omega arith))

pub returns-clause-mark : goal.returns-clause-mark
returns-clause-mark c =
    let some = c.in_ok-slot.ensures in
    let is = c.halves-high.ensures in
    sym (mark_of-halves c.args.word c.halves-high.result.0 c.halves-high.result.1 c.in_ok-slot.slot is.high is.low some.0 some.1)

pub returns-clause-back : goal.returns-clause-back
returns-clause-back c =
    let some = c.in_ok-slot.ensures in
    let is = c.halves-high.ensures in
    mark_word-halves c.args.word c.halves-high.result.0 c.halves-high.result.1 c.in_ok-slot.slot is.high is.low some.0 some.1
