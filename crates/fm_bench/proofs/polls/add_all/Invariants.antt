use Rattle.std.proofs.Common.{◌≡◌, ◌≤◌, length}
use Rattle.fm_base.specs.declared.arena_id.ArenaId.{ArenaId}
use Rattle.fm_rule_facts.specs.Views.{IsKnown}
use Rattle.fm_bench.proofs.polls.add_all.Given as goal

abbrev pub invariant-loop-arena : goal.invariant-loop-arena
invariant-loop-arena l =
    ((a : ArenaId) → IsKnown l.initial.set.pass a → IsKnown l.set.pass a) × (length l.set.closes ≤ l.arena-index) × (l.set.room ≡ 64) × (l.set.pool ≡ l.initial.set.pool)
