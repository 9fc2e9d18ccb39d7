use Rattle.std.proofs.{Common.{◌+◌, ◌<◌, length, drop, arith}, lemmas.Result.{err_from_is_err_and}}
use Rattle.fm_io.proofs.Sent.{goes_on, stops, ends}
use Rattle.fm_records.{specs.Texts.{line_text, lines_text}, proofs.Sent.{next_line, no_line}}
use Rattle.fm_records.proofs.writing.send_lines.Goals as goal

pub loop-k-preserved : goal.loop-k-preserved
loop-k-preserved g c =
    let items = c.args.items.now in
    let found = c.args.found.now in
    let one : c.loop-k.k < length items = omega (arith, c.loop-k-test.true, c.min-k-end.ensures) in
    let other : c.loop-k.k < length found = omega (arith, c.loop-k-test.true, c.min-k-end.ensures) in
    record {
      way = goes_on (line_text c.index-items-k.result c.index-found-k.result) (lines_text (drop (c.loop-k.k + 1) items) (drop (c.loop-k.k + 1) found))
          c.loop-k.invariant.way c.in_ok-send_line.ensures.sends (next_line c.loop-k.k items found _ _ one other c.index-items-k.is c.index-found-k.is);
      short = λ _. c.in_ok-send_line.ensures.short;
    }

pub returns-in_err-send_line-clause-sends : goal.returns-in_err-send_line-clause-sends
returns-in_err-send_line-clause-sends g c =
    let p = err_from_is_err_and c.from_residual.result c.from_residual.ensures.1 in
    let items = c.args.items.now in
    let found = c.args.found.now in
    let one : c.loop-k.k < length items = omega (arith, c.loop-k-test.true, c.min-k-end.ensures) in
    let other : c.loop-k.k < length found = omega (arith, c.loop-k-test.true, c.min-k-end.ensures) in
    rw (p.1, p.2)
    (stops (line_text c.index-items-k.result c.index-found-k.result) (lines_text (drop (c.loop-k.k + 1) items) (drop (c.loop-k.k + 1) found))
    c.loop-k.invariant.way c.in_err-send_line.ensures.sends (next_line c.loop-k.k items found _ _ one other c.index-items-k.is c.index-found-k.is))

pub returns-clause-sends : goal.returns-clause-sends
returns-clause-sends g c =
    ends c.loop-k.invariant.way (no_line c.loop-k.k c.args.items.now c.args.found.now (omega (arith, c.loop-k-test.false, c.min-k-end.ensures)))
