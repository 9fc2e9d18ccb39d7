use Rattle.std.{proofs.Common.{◌≡◌, take}, specs.String.{string_bytes}}
use Rattle.fm_path_text.specs.Grammar.{pieces_of}
use Rattle.fm_records_query.proofs.printing.pieces_text.Given as goal

abbrev pub invariant-loop-k : goal.invariant-loop-k
invariant-loop-k l = string_bytes l.text ≡ pieces_of (take l.k l.path)
