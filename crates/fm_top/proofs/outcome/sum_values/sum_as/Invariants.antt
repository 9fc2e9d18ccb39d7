use Rattle.std.{proofs.Common.{◌≡◌, ◌-◌, ◌*◌, ◌/◌, length, drop, map}, specs.Prelude.{◌+ℤ◌}}
use Rattle.fm_records.specs.{Answers.{sum_of}, Records.{pieces}}
use Rattle.fm_top.{specs.Records.{number_at, sum_of_values}, proofs.Sums.{IsWithin}}
use Rattle.fm_top.proofs.outcome.sum_values.sum_as.Given as goal

-- the sum so far and that of the records that are left are the whole sum
abbrev pub invariant-loop-record : goal.invariant-loop-record
invariant-loop-record l =
    let file = l.fn.loaded in
    record {
      rest : l.sum +ℤ sum_of (map (number_at l.fn.kind l.at) (pieces (length file / l.size - l.record) l.size (drop (l.record * l.size) file)))
          ≡ sum_of_values l.fn.kind l.size l.at file;
      same : l.loaded ≡ file;
      small : IsWithin l.record l.sum;
    }
