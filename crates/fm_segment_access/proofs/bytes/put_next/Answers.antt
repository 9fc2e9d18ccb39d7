use Rattle.std.proofs.Common.{◌≡◌, ◌/◌, ◌%◌, ◌<◌, ◌≤◌, inl, inr, length, ◌∙◌, arith, refl}
use Rattle.fm_lanes.proofs.Reading.{little_number-number_of}
use Rattle.fm_segment_access.proofs.{Alone.{AreBytes-slice, is_part}, Putting.{puts_piece}, Touching.{visited_as}, Writing.{puts_words}}
use Rattle.fm_segment_access.proofs.bytes.put_next.Goals.{else-at-eq0-via-then-at-eq0+else-words-gt0, else-at-eq0-via-else-at-eq0}
use Rattle.fm_segment_access.proofs.bytes.put_next.Goals as goal

pub put_piece-requires-clause-fits : goal.put_piece-requires-clause-fits
put_piece-requires-clause-fits g c =
    let bytes = c.args.bytes.now in
    let width = c.piece_width-width.result in
    let few : c.piece_width-width.result ≤ length c.args.bytes.now = (let b = c.piece_width-width.ensures.before_end in omega arith) in
    (is_part bytes width c.read_uint.result (AreBytes-slice bytes c.type_inv.bytes) few (c.read_uint.ensures ∙ little_number-number_of width bytes)).small

pub returns-in_ok-put_words-clause-did : goal.returns-in_ok-put_words-clause-did
returns-in_ok-put_words-clause-did g c =
    let bytes = c.args.bytes.now in
    visited_as c.in_ok-put_words.ensures
    (λ own d. (
      d.0,
      inl (puts_words (g.M.Memory.view c.args.m.now).caller c.args.arena c.args.at (length bytes / 8) bytes own
          (AreBytes-slice bytes c.type_inv.bytes) c.if-at-eq0.true c.if-words-gt0.true refl d.1),
    ))

pub returns-in_ok-put_piece-clause-did : goal.returns-in_ok-put_piece-clause-did
returns-in_ok-put_piece-clause-did g c =
    let bytes = c.args.bytes.now in
    let width = c.piece_width-width.result in
    let none : c.args.at % 8 ≡ 0 → length c.args.bytes.now < 8 =
    elim c.else-at-eq0.branch [
      | else-at-eq0-via-then-at-eq0+else-words-gt0 w ↦ (λ e. let f = w.if-words-gt0.false in omega arith)
      | else-at-eq0-via-else-at-eq0 w ↦ (λ e. let f = w.if-at-eq0.false in omega arith)
    ] in
    let is = c.read_uint.ensures ∙ little_number-number_of width bytes in
    visited_as c.in_ok-put_piece.ensures
    (λ own d. (
      d.0,
      inr (record {
        no_word = none;
        piece = puts_piece (g.M.Memory.view c.args.m.now).caller c.args.arena c.args.at width c.read_uint.result bytes own c.requires.some
            c.piece_width-width.ensures.value is d.1;
      }),
    ))
