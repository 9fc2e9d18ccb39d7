use Rattle.std.{proofs.Common.{◌≡◌, take}, specs.{List.{flat_map}, String.{string_bytes}}}
use Rattle.fm_group_text.specs.Printed.{group_text}
use Rattle.fm_group_text.proofs.printing.print_groups.Given as goal

abbrev pub invariant-loop-k : goal.invariant-loop-k
invariant-loop-k l = string_bytes l.text ≡ flat_map group_text (take l.k l.groups)
