use Rattle.std.specs.Bool.{one_answer}
use Rattle.fm_layout.specs.{Same.{same_tree}, Alike.{same_tree-Decides}}
use Rattle.fm_layout.proofs.layout.equality.LayoutPartialEq.eq.Goals as goal

pub returns-clause-tested : goal.returns-clause-tested
returns-clause-tested c =
    one_answer c.same.result (same_tree c.args.self.now c.args.other.now) c.same.ensures (same_tree-Decides c.args.self.now c.args.other.now)
