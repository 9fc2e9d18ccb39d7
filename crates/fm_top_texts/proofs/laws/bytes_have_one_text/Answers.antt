use Rattle.fm_top_texts.proofs.Found.{text_is}
use Rattle.fm_top_texts.proofs.laws.bytes_have_one_text.Goals as goal

pub returns : goal.returns
returns c = text_is
