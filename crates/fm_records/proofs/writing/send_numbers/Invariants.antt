use Rattle.std.{proofs.Common.{◌<◌, drop, length}, specs.{List.{flat_map}, String.{string_bytes}}}
use Rattle.fm_io.{proofs.Sent.{IsUnderWay}, specs.declared.sending.TheConstants.{PIECE}}
use Rattle.fm_records.specs.Texts.{number_text}
use Rattle.fm_records.proofs.writing.send_numbers.Given as goal

abbrev pub invariant-loop-k : goal.invariant-loop-k
invariant-loop-k g l = record {
  way : IsUnderWay (g.O.Sink.view l.fn.out) (g.O.Sink.view l.out) (string_bytes l.fn.text) (string_bytes l.text) (flat_map number_text (drop l.k l.numbers)) (flat_map number_text l.numbers);
  short : length (string_bytes l.fn.text) < PIECE → length (string_bytes l.text) < PIECE;
}
