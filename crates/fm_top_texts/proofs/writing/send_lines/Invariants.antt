use Rattle.std.{proofs.Common.{◌≡◌, ◌/◌, length}, specs.String.{string_bytes}}
use Rattle.fm_io.proofs.Sent.{IsUnderWay}
use Rattle.fm_top_texts.{specs.Lines.{texts_text}, proofs.Behind.{lines_between}}
use Rattle.fm_top_texts.proofs.writing.send_lines.Given as goal

abbrev pub invariant-loop-k : goal.invariant-loop-k
invariant-loop-k g l =
    let file = l.fn.loaded in
    record {
      way : IsUnderWay (g.O.Sink.view l.fn.out) (g.O.Sink.view l.out) (string_bytes l.fn.pending) (string_bytes l.pending)
          (lines_between l.plan file l.k (length file / l.plan.size)) (texts_text l.plan file);
      same : l.loaded ≡ file;
    }
