-- Two passes of one pool, of which the second comes between the calls of the first.
use Rattle.std.specs.Prelude.{◌≡◌, None}
use Rattle.fm_rule_facts.specs.Views.{View}
use Rattle.fm_arena.specs.Lasting.{SamePool}

pub record AreBeside (ours theirs : View) : Type 0 where
  pub same : SamePool ours theirs
  pub outside : theirs.inside ≡ None
