use Rattle.std.proofs.Common.{◌∙◌, sym}
use Rattle.fm_rule.proofs.Noting.{back_closed, back_last, back_one, back_fits}
use Rattle.fm_rule.proofs.words.back_word.Goals as goal

pub returns-in-None : goal.returns-in-None
returns-in-None c = back_closed c.args.id c.args.word (sym c.in-None.is ∙ c.alive_holds.ensures)

pub overflow_sub-result : goal.overflow_sub-result
overflow_sub-result c = back_fits c.args.id c.args.word c.in-Some.holds (sym c.in-Some.is ∙ c.alive_holds.ensures) c.if-holds-eq0.false

pub returns-then-holds-eq0 : goal.returns-then-holds-eq0
returns-then-holds-eq0 c =
    c.closing_word.ensures ∙ back_last c.args.id c.args.word c.in-Some.holds (sym c.in-Some.is ∙ c.alive_holds.ensures) c.if-holds-eq0.true

pub returns-else-holds-eq0 : goal.returns-else-holds-eq0
returns-else-holds-eq0 c = back_one c.args.id c.args.word c.in-Some.holds (sym c.in-Some.is ∙ c.alive_holds.ensures) c.if-holds-eq0.false
