use Rattle.std.{proofs.Common.{◌≡◌}, specs.{List.{flat_map, range_with_len}, String.{string_bytes}}}
use Rattle.fm_workers.specs.Printed.{place_text, rising}
use Rattle.fm_workers.proofs.printing.print_counts.Given as goal

abbrev pub invariant-loop-k : goal.invariant-loop-k
invariant-loop-k l = string_bytes l.text ≡ flat_map (λ k. place_text l.counts (rising k)) (range_with_len 0 l.k)
