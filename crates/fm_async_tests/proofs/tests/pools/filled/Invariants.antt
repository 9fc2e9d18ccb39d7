use Rattle.std.proofs.Common.{◌≡◌, ℕ, List, length}
use Rattle.fm_base.specs.declared.arena_id.ArenaId.{ArenaId}
use Rattle.fm_rule_facts.specs.Views.{IsKnown}
use Rattle.fm_async_tests.proofs.tests.pools.filled.Given as goal

abbrev pub invariant-loop-arena : goal.invariant-loop-arena
invariant-loop-arena g l =
    ((a : ArenaId) → IsKnown l.fn.pass a → IsKnown l.set.pass a) × (length l.set.closes ≡ l.arena-index) × (l.set.room ≡ 64)
