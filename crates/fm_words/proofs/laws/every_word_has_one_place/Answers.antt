use Rattle.fm_words.proofs.Tables.{every_word}
use Rattle.fm_words.proofs.laws.every_word_has_one_place.Goals as goal

pub returns : goal.returns
returns c = every_word
