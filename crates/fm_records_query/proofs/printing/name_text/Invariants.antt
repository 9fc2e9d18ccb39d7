use Rattle.std.{proofs.Common.{◌≡◌, ◌∷◌, take}, specs.String.{string_bytes}}
use Rattle.fm_records_query.proofs.printing.name_text.Given as goal

abbrev pub invariant-loop-k : goal.invariant-loop-k
invariant-loop-k l = string_bytes l.text ≡ 46 ∷ take l.k l.name
