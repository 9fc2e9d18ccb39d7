use Rattle.std.proofs.Common.{◌≡◌, ◌+◌, ◌≤◌, ◌++◌, All, List, length, map, reverse, vec_capacity}
use Rattle.fm_base.specs.declared.arena_id.ArenaId.{ArenaId}
use Rattle.fm_script_lines.specs.{Runs.{WentOn}, Standings.{IsSpent, lent, standing_as}, Tokens.{Backs, IsReady}}
use Rattle.fm_script_lines.proofs.table.Table.settle.Given as goal

abbrev pub invariant-loop-standing : goal.invariant-loop-standing
invariant-loop-standing g l = record {
  ready : IsReady l.m l.fn.self.base.now l.own.items;
  left : (holds handles : List ArenaId) → Backs l.fn.m holds handles l.fn.self.base.now l.fn.self.own.items
      → Backs l.m holds handles l.fn.self.base.now l.own.items;
  spent : All IsSpent l.fn.self.own.items → (l.m ≡ l.fn.m) × All IsSpent l.own.items;
  went : WentOn l.fn.m l.m;
  room : length l.others.items + length l.own.items ≤ vec_capacity l.others;
  others : map standing_as l.others.items ++ reverse (map lent l.own.items) ≡ reverse (map lent l.fn.self.own.items);
}

abbrev pub decreases-loop-standing : goal.decreases-loop-standing
decreases-loop-standing g l = goal.left-loop-standing g l
