-- Which pass made a page, a hold, a handle or a close.
use Rattle.std.specs.Prelude.{ℕ, List}
use Rattle.fm_base.specs.declared.caller.Caller.{Caller}
use Rattle.fm_rule_facts.specs.Views.{View}

pub record Made : Type 0 where
  -- numbers that tell the pool
  pub home : List ℕ
  pub caller : Caller

abbrev pub made_by_pass : View → Made
made_by_pass p = record { home = p.home; caller = p.caller }
