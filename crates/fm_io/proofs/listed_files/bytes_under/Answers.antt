use Rattle.std.proofs.Common.{Some, ap, sym, ◌∙◌}
use Rattle.fm_io.proofs.Listed.{found_at, passed_at, none_left}
use Rattle.fm_io.proofs.listed_files.bytes_under.Goals as goal

pub returns-then-eq : goal.returns-then-eq
returns-then-eq c =
    sym c.loop-file.invariant
    ∙ found_at c.args.files.now c.loop-file.file-index c.file-item.result c.args.name.now c.as_str.result.now c.loop-file-test.true c.file-item.is
    c.as_str.ensures.value (sym c.eq.ensures ∙ c.if-eq.true)
    ∙ ap Some (sym c.as_slice.ensures.value)

pub loop-file-preserved : goal.loop-file-preserved
loop-file-preserved c =
    sym (passed_at c.args.files.now c.loop-file.file-index c.file-item.result c.args.name.now c.as_str.result.now c.loop-file-test.true c.file-item.is
    c.as_str.ensures.value (sym c.eq.ensures ∙ c.if-eq.false))
    ∙ c.loop-file.invariant

pub returns : goal.returns
returns c = sym c.loop-file.invariant ∙ none_left c.args.files.now c.loop-file.file-index c.args.name.now c.loop-file-test.false
