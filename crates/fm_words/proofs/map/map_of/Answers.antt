use Rattle.fm_words.proofs.Maps.{map_of-less, map_word-less}
use Rattle.fm_words.proofs.map.map_of.Goals as goal

pub returns-clause-page : goal.returns-clause-page
returns-clause-page c = map_of-less c.args.word c.checked_sub.result c.checked_sub.ensures

pub returns-clause-back : goal.returns-clause-back
returns-clause-back c = map_word-less c.args.word c.checked_sub.result c.checked_sub.ensures
