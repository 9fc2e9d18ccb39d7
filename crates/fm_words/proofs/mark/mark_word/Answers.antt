use Rattle.std.proofs.Common.{ap, ◌∙◌, arith}
use Rattle.fm_words.{specs.Marks.{mark_word, mark_of}, proofs.Marks.{mark_of-mark_word}}
use Rattle.fm_words.proofs.mark.mark_word.Goals as goal

pub returns-clause-word : goal.returns-clause-word
unfolding mark_word
returns-clause-word c = c.joined.ensures

pub returns-clause-back : goal.returns-clause-back
unfolding mark_word
returns-clause-back c = ap mark_of c.joined.ensures ∙ mark_of-mark_word c.args.slot c.args.generation (omega arith)
