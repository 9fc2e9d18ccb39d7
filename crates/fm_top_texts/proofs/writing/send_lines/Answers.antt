use Rattle.std.proofs.{Common.{◌++◌, ◌+◌, ◌/◌, ◌∙◌, ap, length, sym}, lemmas.Result.{err_from_is_err_and}}
use Rattle.fm_io.proofs.Sent.{goes_on, stops}
use Rattle.fm_top_texts.{proofs.Behind.{lines_between, next_line}, specs.Lines.{record_line}}
use Rattle.fm_top_texts.proofs.writing.send_lines.Goals as goal

pub loop-k-preserved : goal.loop-k-preserved
loop-k-preserved g c =
    let p = c.args.plan.now in
    let file = c.args.loaded.now in
    let k = c.loop-k.k in
    let n = length file / p.size in
    let more = lines_between p file (k + 1) n in
    let same = c.loop-k.invariant.same in
    record {
      way = goes_on {rest = lines_between p file k n} (record_line p c.loop-k.loaded k) more c.loop-k.invariant.way c.in_ok-send_text.ensures.sends
          (next_line p file k n (rw c.len.ensures at c.loop-k-test.true) ∙ ap (λ f. record_line p f k ++ more) (sym same));
      same = c.send_text.ensures.same ∙ same;
    }

pub returns-in_err-send_text-clause-sends : goal.returns-in_err-send_text-clause-sends
returns-in_err-send_text-clause-sends g c =
    let q = err_from_is_err_and c.from_residual.result c.from_residual.ensures.1 in
    let p = c.args.plan.now in
    let file = c.args.loaded.now in
    let k = c.loop-k.k in
    let n = length file / p.size in
    let more = lines_between p file (k + 1) n in
    rw (q.1, q.2) (stops {rest = lines_between p file k n} (record_line p c.loop-k.loaded k) more c.loop-k.invariant.way c.in_err-send_text.ensures.sends
    (next_line p file k n (rw c.len.ensures at c.loop-k-test.true) ∙ ap (λ f. record_line p f k ++ more) (sym c.loop-k.invariant.same)))
