use Rattle.std.proofs.Common.{◌∙◌, sym, arith}
use Rattle.fm_rule.proofs.Noting.{hold_fits, hold_taken, hold_refused, hold_closed}
use Rattle.fm_rule.proofs.words.held_word.Goals as goal

pub overflow_add-result : goal.overflow_add-result
overflow_add-result c =
    let h = hold_fits c.args.id c.args.word c.in-Some.holds (sym c.in-Some.is ∙ c.alive_holds.ensures) c.if-holds-lt-MOST_HOLDS.true c.ranges.word.fits in
    omega arith

pub returns-in-Some : goal.returns-in-Some
returns-in-Some c = hold_taken c.args.id c.args.word c.in-Some.holds (sym c.in-Some.is ∙ c.alive_holds.ensures) c.if-holds-lt-MOST_HOLDS.true

pub returns-in_default : goal.returns-in_default
returns-in_default c = hold_refused c.args.id c.args.word c.in-Some.holds (sym c.in-Some.is ∙ c.alive_holds.ensures) c.if-holds-lt-MOST_HOLDS.false

pub returns-in_default-2 : goal.returns-in_default-2
returns-in_default-2 c = hold_closed c.args.id c.args.word (sym c.in_default.is ∙ c.alive_holds.ensures)
