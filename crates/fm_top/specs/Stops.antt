-- Why a run stops where a call of a crate below came to nothing.
use Rattle.std.specs.{Prelude.{ℕ, List, Result, Ok, Err}, Borrow.{Bor}}
use Rattle.fm_base.specs.declared.refusal.Refusal.{Refusal, TheVariants.{BadScript, Memory}}
use Rattle.fm_top_load.specs.declared.load_fault.LoadFault.{LoadFault}
use Rattle.fm_top_load.specs.declared.load_fault.LoadFault.TheVariants as load
use Rattle.fm_top.specs.declared.outcome.stop.Stop.{Stop}
use Rattle.fm_top.specs.declared.outcome.stop.Stop.TheVariants as stop

-- what was answered, or why the run stops
abbrev pub or_stop : {T E : Type 0} → (E → Stop) → Result T E → Result T Stop
or_stop why (Ok x) = Ok x
or_stop why (Err e) = Err (why e)

-- the file of this name wasn't loaded
abbrev pub load_stop : Bor (List ℕ) → LoadFault → Stop
load_stop file load.Missing = stop.Missing file
load_stop file load.TooLong = stop.TooLong
load_stop file (load.Ragged rest) = stop.Ragged rest
load_stop file load.Failed = stop.Unread
load_stop file fault = stop.Memory

-- a layout is refused
abbrev pub layout_stop : Refusal → Stop
layout_stop Memory = stop.Memory
layout_stop refusal = stop.LayoutRefused refusal

-- a query or a path is refused
abbrev pub query_stop : Refusal → Stop
query_stop Memory = stop.Memory
query_stop refusal = stop.QueryRefused refusal

-- a script is refused, or memory ran out
abbrev pub script_stop : Refusal → Stop
script_stop (BadScript line) = stop.ScriptRefused line
script_stop refusal = stop.Memory
