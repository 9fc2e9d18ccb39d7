use Rattle.std.{proofs.Common.{rules, ◌≡◌, sym, subst}, specs.Str.{IsUtf8}}
use Rattle.hex.specs.Hex.{encode_lower}
use Rattle.fm_base_text.proofs.Digits.{utf8_digits}
use Rattle.fm_base_text.proofs.bytes.push_piece.Goals as goal

pub unreachable-requires-in-Err : goal.unreachable-requires-in-Err
unreachable-requires-in-Err c =
    let written : c.encode_to_slice.new.output ≡ encode_lower c.args.piece.now = search rules in
    c.in-Err.ensures.cases.0 (subst IsUtf8 (sym written) (utf8_digits c.args.piece.now))
