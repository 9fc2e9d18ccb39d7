use Rattle.std.proofs.Common.{◌≡◌, ◌+◌, ◌-◌, ◌≤◌, ◌++◌, All, List, length, map, take, vec_capacity}
use Rattle.fm_base.specs.declared.arena_id.ArenaId.{ArenaId}
use Rattle.fm_rule_facts.specs.Views.{View}
use Rattle.fm_script_lines.specs.{Learnt.{KeepsTable}, Standings.{IsBacked, standing_as}, Tokens.{Backs}}
use Rattle.fm_script_lines.proofs.table.Table.take_over.Given as goal

abbrev pub invariant-loop-other : goal.invariant-loop-other
invariant-loop-other l = record {
  keeps : KeepsTable l.fn.self l.self;
  room : length l.self.own.items + (length l.others - l.other-index) ≤ vec_capacity l.self.own;
  own : l.self.own.items ≡ l.fn.self.own.items ++ map standing_as (take l.other-index l.others);
  backs : (p : View) (holds handles : List ArenaId) → Backs p holds handles l.fn.self.base.now l.fn.self.own.items
      → All (IsBacked p) (map standing_as (take l.other-index l.others))
      → Backs p holds handles l.fn.self.base.now l.self.own.items;
}
