use Rattle.fm_script_text.proofs.Once.{one_line, one_script, not_both}
use Rattle.fm_script_text.proofs.laws.each_text_has_one_answer.Goals as goal

pub returns : goal.returns
returns c = record { one_script = one_script; one_line = one_line; not_both = not_both }
