use Rattle.std.{proofs.Common.{◌+◌, Bool, length, sym, subst}, specs.Prelude.{IfOk}}
use Rattle.fm_top_load.specs.Reading.{GoesBy, ReadsFurther}
use Rattle.fm_top_stream.proofs.Chunking.{further_by}
use Rattle.fm_top_stream.proofs.answering.read_next.Goals as goal

pub returns-clause-reads : goal.returns-clause-reads
returns-clause-reads g c =
    let stretch = c.args.stretch.now in
    let old = g.F.Files.view c.args.files.now in
    let new = g.F.Files.view c.read.new.files in
    subst (λ (b : Bool). ReadsFurther old.reads new.reads stretch.name.now stretch.limit (GoesBy b stretch.at)
    (λ next. IfOk c.read.result (λ _. GoesBy c.read.new.self.ended (stretch.at + length c.read.new.self.bytes) next))) (sym c.if-ended.false)
    (further_by stretch.limit c.read.ensures.reads)
