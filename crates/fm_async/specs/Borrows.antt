-- A close of a pass that is borrowed, while it is polled.
use Rattle.std.specs.{Prelude.{◌≡◌, Option, IfSome}, Borrow.{MutBor, GName}}
use Rattle.fm_rule_facts.specs.Views.{View}
use Rattle.fm_rule.specs.declared.pool.Pool.{Pool}
use Rattle.fm_close.specs.declared.shutting.Shutting.{Shutting}
use Rattle.fm_async.specs.{Closers.{IsClosing}, Visits.{Visited}}

-- what contracts see of it
pub record BorrowView : Type 0 where
  pub pool : Pool
  -- the name of the reference by which the pass is borrowed
  pub name : GName
  pub pass : View
  pub shutting : Shutting

abbrev pub borrow_of : Pool → MutBor View → Shutting → BorrowView
borrow_of pool b s = record { pool = pool; name = b.ghost_name; pass = b.now; shutting = s }

-- by visits alone
pub record Comes (old new : BorrowView) : Type 0 where
  pub pool : new.pool ≡ old.pool
  pub name : new.name ≡ old.name
  pub visited : Visited old.pool old.pass new.pass old.shutting new.shutting

-- a close under way or over, that has come from where it was at first
pub record HasCome (start : Option BorrowView) (c : BorrowView) : Type 0 where
  pub is : IsClosing c.pool c.pass c.shutting
  pub came : IfSome start (λ old. Comes old c)
