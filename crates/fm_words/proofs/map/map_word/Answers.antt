use Rattle.std.proofs.Common.{ap, ◌∙◌}
use Rattle.fm_words.{specs.Maps.{map_word, map_of}, proofs.Maps.{map_of-map_word}}
use Rattle.fm_words.proofs.map.map_word.Goals as goal

pub returns-clause-word : goal.returns-clause-word
unfolding map_word
returns-clause-word c = ap map_word c.from.ensures

pub returns-clause-back : goal.returns-clause-back
unfolding map_word
returns-clause-back c = ap (λ n. map_of (map_word n)) c.from.ensures ∙ map_of-map_word c.args.page
