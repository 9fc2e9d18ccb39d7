use Rattle.std.{proofs.{Common.{◌≡◌, ◌+◌, ◌<◌, length, drop, of_z, to_z, w64, ◌∙◌, arith, rules}, lemmas.Int.{to_z-of_z}}, specs.List.{flat_map}}
use Rattle.std.proofs.lemmas.Result.{err_from_is_err_and}
use Rattle.fm_io.proofs.Sent.{goes_on, stops}
use Rattle.fm_records.{specs.Texts.{number_text}, proofs.Sent.{next_number}}
use Rattle.fm_records.proofs.writing.send_numbers.Goals as goal

pub loop-k-preserved : goal.loop-k-preserved
loop-k-preserved g c =
    let ns = c.args.numbers.now in
    let n = to_z w64 (of_z w64 c.at.result) in
    let read : n ≡ c.at.result = to_z-of_z w64 c.at.result (search (rules, c.at.type_inv)) in
    let one : c.loop-k.k < length ns = omega (arith, c.loop-k-test.true, c.len-k-end.ensures) in
    record {
      way = goes_on (number_text n) (flat_map number_text (drop (c.loop-k.k + 1) ns)) c.loop-k.invariant.way c.in_ok-send_number.ensures.sends
          (next_number c.loop-k.k ns n _ one (read ∙ c.at.ensures));
      short = λ _. c.in_ok-send_number.ensures.short;
    }

pub returns-in_err-send_number-clause-sends : goal.returns-in_err-send_number-clause-sends
returns-in_err-send_number-clause-sends g c =
    let p = err_from_is_err_and c.from_residual.result c.from_residual.ensures.1 in
    let ns = c.args.numbers.now in
    let n = to_z w64 (of_z w64 c.at.result) in
    let read : n ≡ c.at.result = to_z-of_z w64 c.at.result (search (rules, c.at.type_inv)) in
    let one : c.loop-k.k < length ns = omega (arith, c.loop-k-test.true, c.len-k-end.ensures) in
    rw (p.1, p.2) (stops (number_text n) (flat_map number_text (drop (c.loop-k.k + 1) ns)) c.loop-k.invariant.way c.in_err-send_number.ensures.sends
    (next_number c.loop-k.k ns n _ one (read ∙ c.at.ensures)))
