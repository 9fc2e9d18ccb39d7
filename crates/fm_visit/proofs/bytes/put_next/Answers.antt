use Rattle.std.proofs.Common.{◌/◌, ◌≤◌, length, ◌∙◌, arith}
use Rattle.fm_lanes.proofs.Reading.{little_number-number_of}
use Rattle.fm_segment_access.proofs.Alone.{AreBytes-slice, is_part}
use Rattle.fm_visit.proofs.Putting.{next_words, next_piece_put, reaches_word, reaches_words}
use Rattle.fm_visit.proofs.bytes.put_next.Goals as goal

pub store_words-requires-clause-sound : goal.store_words-requires-clause-sound
store_words-requires-clause-sound g c = c.caller.ensures.sound

pub store_words-requires-clause-reach : goal.store_words-requires-clause-reach
store_words-requires-clause-reach g c = reaches_words c.requires.reach c.if-at-eq0.true (omega arith)

pub put_inside-requires-clause-fits : goal.put_inside-requires-clause-fits
put_inside-requires-clause-fits g c =
    let bytes = c.args.bytes.now in
    let width = c.piece_width-width.result in
    let few : c.piece_width-width.result ≤ length c.args.bytes.now = (let b = c.piece_width-width.ensures.before_end in omega arith) in
    (is_part bytes width c.read_uint-part.result (AreBytes-slice bytes c.type_inv.bytes) few (c.read_uint-part.ensures ∙ little_number-number_of width bytes)).small

pub put_inside-requires-clause-reach : goal.put_inside-requires-clause-reach
put_inside-requires-clause-reach g c = reaches_word c.requires.reach c.requires.some

pub returns-then-words-gt0-clause-did : goal.returns-then-words-gt0-clause-did
returns-then-words-gt0-clause-did g c =
    next_words c.args.at (length c.args.bytes.now / 8) c.args.bytes.now c.requires.reach.inside c.if-at-eq0.true (omega arith) c.store_words.ensures

pub returns-else-at-eq0-clause-did : goal.returns-else-at-eq0-clause-did
returns-else-at-eq0-clause-did g c =
    let bytes = c.args.bytes.now in
    let width = c.piece_width-width.result in
    let p = c.piece_width-width.ensures in
    next_piece_put c.args.at width bytes p.some (let b = p.before_end in omega arith) p.value (c.read_uint-part.ensures ∙ little_number-number_of width bytes)
    c.put_inside.ensures.did
