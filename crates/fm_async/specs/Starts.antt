-- What became of the start of a close.
use Rattle.std.specs.Prelude.{◌≡◌, Ok, Err}
use Rattle.fm_base.specs.declared.arena_id.ArenaId.{ArenaId}
use Rattle.fm_rule_facts.specs.Views.{View}
use Rattle.fm_rule.specs.declared.pool.Pool.{Pool}
use Rattle.fm_close.specs.Learnt.{AfterShut}
use Rattle.fm_async.specs.Closers.{IsCloser}
use Rattle.fm_async.specs.declared.outcome.Start.{Start, TheVariants.{Begun, Refused}}

-- of `start`: that of `shut`, with the pass in the closer or back
abbrev pub AfterStart : Pool → View → ArenaId → Start → Type 0
AfterStart pool p id (Begun c) = (c.pool ≡ pool) × IsCloser c × AfterShut pool p c.pass id (Ok c.shutting)
AfterStart pool p id (Refused q r) = AfterShut pool p q id (Err r)
