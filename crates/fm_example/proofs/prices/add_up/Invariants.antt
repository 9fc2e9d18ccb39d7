use Rattle.std.specs.Prelude.{◌≡◌, None}
use Rattle.fm_arena.specs.Lasting.{SamePool}
use Rattle.fm_example.proofs.prices.add_up.Given as goal
use Rattle.fm_rule_calls.specs.Told.{view_of_pass}
use Rattle.fm_segment.specs.Access.{IsKnown}

abbrev pub invariant-loop-sale : goal.invariant-loop-sale
invariant-loop-sale l = (l.ours.inside ≡ None) × IsKnown (view_of_pass l.ours) l.fn.sales × SamePool l.fn.ours l.ours
