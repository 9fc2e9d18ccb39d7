use Rattle.fm_script_text.proofs.Spelling.{found_name}
use Rattle.fm_script_text.proofs.words.name_of.Goals as goal

pub returns : goal.returns
returns c = found_name c.args.word.now c.of.result c.of.ensures.name c.of.ensures.some
