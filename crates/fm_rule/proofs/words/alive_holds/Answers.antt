use Rattle.std.proofs.Common.{◌∙◌, sym}
use Rattle.fm_rule.proofs.Noting.{holds_hit, holds_miss}
use Rattle.fm_rule.proofs.words.alive_holds.Goals as goal

pub returns-then-word-alive_word : goal.returns-then-word-alive_word
returns-then-word-alive_word c = holds_hit c.args.id c.args.word (c.if-word-alive_word.true ∙ c.alive_word.ensures)

pub returns-else-word-alive_word : goal.returns-else-word-alive_word
returns-else-word-alive_word c = holds_miss c.args.id c.args.word (λ e. c.if-word-alive_word.false (e ∙ sym c.alive_word.ensures))
