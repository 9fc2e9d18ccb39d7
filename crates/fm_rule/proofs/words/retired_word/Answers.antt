use Rattle.std.proofs.Common.{ap, ◌∙◌, ℕ}
use Rattle.fm_words.specs.Sessions.{session_word, free_session}
use Rattle.fm_rule_facts.specs.Words.{free_word}
use Rattle.fm_rule.proofs.words.retired_word.Goals as goal

pub returns : goal.returns
unfolding free_word
returns c = c.session_word.ensures.word ∙ ap (λ (g : ℕ). session_word (free_session g)) c.generation_after.ensures
