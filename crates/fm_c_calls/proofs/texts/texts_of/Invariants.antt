use Rattle.std.{proofs.Common.{◌≡◌}, specs.{List.{flat_map, range_with_len}, String.{string_bytes}}}
use Rattle.fm_top_texts.specs.Lines.{record_line}
use Rattle.fm_c_calls.proofs.texts.texts_of.Given as goal

abbrev pub invariant-loop-k : goal.invariant-loop-k
invariant-loop-k l = string_bytes l.lines ≡ flat_map (record_line l.plan l.records) (range_with_len 0 l.k)
