use Rattle.fm_base.specs.declared.arena_id.ArenaId.{ArenaId}
use Rattle.fm_rule_facts.specs.Views.{IsKnown}
use Rattle.fm_async.specs.Sets.{CanBegin}
use Rattle.fm_bench.proofs.polls.close_each.Given as goal

abbrev pub invariant-loop-arena : goal.invariant-loop-arena
invariant-loop-arena g l = CanBegin l.pool l.pass × ((a : ArenaId) → IsKnown l.fn.pass a → IsKnown l.pass a)
