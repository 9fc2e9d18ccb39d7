use Rattle.std.specs.Bool.{one_answer}
use Rattle.fm_ljson.{specs.Node.{is_name}, proofs.Inside.{is_name-Decides}}
use Rattle.fm_ljson.proofs.values.is_name.Goals as goal

pub returns : goal.returns
returns c = one_answer c.is_name.result (is_name c.args.text.now) c.is_name.ensures (is_name-Decides c.args.text.now)
