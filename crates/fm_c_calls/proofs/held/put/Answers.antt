use Rattle.std.proofs.{Common.{◌<◌, length, sym, ◌∙◌, arith}, lemmas.Bool.{eqb-false}}
use Rattle.fm_segment_access.proofs.Alone.{AreBytes-slice}
use Rattle.fm_c_calls.proofs.Standing.{stand_first}
use Rattle.fm_c_calls.proofs.held.put.Goals as goal

pub returns : goal.returns
returns c =
    let some : 0 < length c.args.bytes.now =
    (let n = eqb-false (length c.args.bytes.now) 0 (sym c.is_empty.ensures ∙ c.if-is_empty.false) in omega arith) in
    stand_first c.requires.held c.requires.given c.requires.limit (AreBytes-slice c.args.bytes.now c.type_inv.bytes) some c.put_words.ensures
