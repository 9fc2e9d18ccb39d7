use Rattle.std.proofs.{Common.{arith}, lemmas.Str.Pattern.{split_parts}}
use Rattle.fm_script_text.proofs.Cuts.{is_cut}
use Rattle.fm_script_text.proofs.cutting.cut.Goals as goal

pub returns : goal.returns
returns c = is_cut c.args.text.now c.split_once.result (split_parts 32 c.args.text.now c.split_once.result c.split_once.ensures.cases (omega arith))
