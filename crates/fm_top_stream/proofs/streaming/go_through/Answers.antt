use Rattle.std.proofs.Common.{[], Option, Some, refl, ap, sym, ◌∙◌, subst, arith}
use Rattle.fm_io.{specs.{Files.{Contents}, Reads.{At}}, proofs.Left.{leaves_then}}
use Rattle.fm_top_load.{specs.Whole.{IsPortion}, proofs.{FileBytes.{no_bytes_from}, Portions.{further_says}, Telling.{by_records, read_quietly, tells_none, tells_then}}}
use Rattle.fm_top_stream.specs.{Chunks.{stream_file_limit}, Gone.{GoneSoFar}}
use Rattle.fm_top_stream.proofs.Chunking.{further_some, further_then, reads_further, records_then, tells_no_memory}
use Rattle.fm_top_stream.proofs.{GoesOn.{empty_file, gone_none}, Runs.{ends_here}}
use Rattle.fm_top_stream.proofs.streaming.go_through.Goals as goal

pub returns-then-none-clause-goes : goal.returns-then-none-clause-goes
returns-then-none-clause-goes g c =
    let can = c.requires.can in
    let told = (g.F.Files.view c.args.files.now).holds in
    let none = gone_none can.alone can.begins c.in-Ok.ensures.answer c.in-Ok.ensures.few (no_bytes_from told c.args.crew.now.name.now 0 [] refl) in
    empty_file none can.asks.any can.asks.sized can.asks.even (ends_here c.in_default-read.ensures.took (sym c.len-none.ensures ∙ c.if-none.true) can.asks.any)

pub begin-requires-after_bounds : goal.begin-requires-after_bounds
begin-requires-after_bounds g c κs within =
    let can = c.requires.can in
    let crew = c.args.crew.now in
    let first = c.in_default-read.ensures in
    let told = (g.F.Files.view c.args.files.now).holds in
    let held = (read_quietly first.tells).held in
    let len = c.len-none.ensures in
    let some = c.if-none.false in
    record {
      asks = can.asks;
      read = record { small = omega arith; short = omega arith };
      next = subst (λ (y : Option Contents). IsPortion stream_file_limit crew.most y crew.name.now 0 c.read.new.self) (sym held) first.took;
      some = omega (arith, len, some);
      gone = subst (λ (t : Option Contents). GoneSoFar t crew.name.now crew.most 0 crew.pool.now c.args.pass crew.q.now [] c.in-Ok.answer) (sym held)
          (gone_none can.alone can.begins c.in-Ok.ensures.answer c.in-Ok.ensures.few (no_bytes_from told crew.name.now 0 [] refl));
    }

pub returns-in-Ok-begin-clause-reads : goal.returns-in-Ok-begin-clause-reads
returns-in-Ok-begin-clause-reads g c =
    reads_further stream_file_limit c.in_default-read.ensures.reads
    (further_then stream_file_limit (further_says stream_file_limit c.in-Ok-begin.ensures.reads (λ next goes. (goes.0, λ e. goes.1 e ∙ ap At (omega arith))))
    c.take_chunks.ensures.reads)

pub returns-in-Ok-begin-clause-tells : goal.returns-in-Ok-begin-clause-tells
returns-in-Ok-begin-clause-tells g c =
    records_then (leaves_then (read_quietly c.in_default-read.ensures.tells) (read_quietly c.in-Ok-begin.ensures.tells)) c.take_chunks.ensures.tells

pub returns-in-Err-begin-clause-reads : goal.returns-in-Err-begin-clause-reads
returns-in-Err-begin-clause-reads g c =
    reads_further stream_file_limit c.in_default-read.ensures.reads (further_some stream_file_limit c.in-Err-begin.ensures.reads)

pub returns-in_default-clause-tells : goal.returns-in_default-clause-tells
returns-in_default-clause-tells g c = tells_no_memory (g.F.Files.view c.args.files.now) tt

pub returns-then-none-clause-tells : goal.returns-then-none-clause-tells
returns-then-none-clause-tells g c = tells_none (read_quietly c.in_default-read.ensures.tells)

pub returns-in-Err-begin-clause-tells : goal.returns-in-Err-begin-clause-tells
returns-in-Err-begin-clause-tells g c =
    by_records c.args.crew.now.q.now.size (Some c.in-Err-begin.fault) (tells_then (read_quietly c.in_default-read.ensures.tells) c.in-Err-begin.ensures.tells)
