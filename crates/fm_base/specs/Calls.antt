-- The calls on the one-thread machine, its replies, and the entries of a history.
use Rattle.std.specs.Prelude.{ℕ}
use Rattle.fm_base.specs.declared.{caller.Caller.{Caller}, arena_id.ArenaId.{ArenaId}}

pub data Call : Type 0 where
  Open : (id : ArenaId) → Call
  Enter : (id : ArenaId) → Call
  Read : (id : ArenaId) (word : ℕ) → Call
  Write : (id : ArenaId) (word value : ℕ) → Call
  SwapIf : (id : ArenaId) (word old new : ℕ) → Call
  Add : (id : ArenaId) (word n : ℕ) → Call
  Allocate : (id : ArenaId) (size align : ℕ) → Call
  Leave : (id : ArenaId) → Call
  Hold : (id : ArenaId) → Call
  Unhold : (id : ArenaId) → Call
  Shut : (id : ArenaId) → Call
  End : (id : ArenaId) → Call
  -- a block of the pool's words is lent to the arena as its part of this index
  Lend : (block : ℕ) (id : ArenaId) (part : ℕ) → Call
  -- the block is taken back
  Back : (block : ℕ) → Call

pub data Reply : Type 0 where
  -- done
  Fine : Reply
  Closed : Reply
  -- the arena has so many holds
  Held : (holds : ℕ) → Reply
  TooManyHolds : Reply
  Found : (word : ℕ) → Reply
  Given : (place : ℕ) → Reply
  NoRoom : (given : ℕ) → Reply

pub record Entry : Type 0 where
  pub caller : Caller
  pub call : Call
  pub reply : Reply

abbrev pub entry_of : Caller → Call → Reply → Entry
entry_of caller call reply = record { caller = caller; call = call; reply = reply }
