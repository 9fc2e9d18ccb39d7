use Rattle.fm_rule.proofs.Halves.{gathered_back}
use Rattle.fm_rule.proofs.pool.Pool.gather.Goals as goal

pub returns-then-caller-lt4294967295 : goal.returns-then-caller-lt4294967295
returns-then-caller-lt4294967295 c = gathered_back _ _ _ _ c.join_in.ensures c.give_back.ensures
