use Rattle.fm_rule_facts.specs.Words.{mark_of}
use Rattle.fm_rule.proofs.words.mark_of.Goals as goal

pub returns : goal.returns
unfolding mark_of
returns c = c.mark_word.ensures.word
