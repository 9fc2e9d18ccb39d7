use Rattle.std.proofs.Common.{◌+◌, ◌%◌, ◌≤◌, arith}
use Rattle.fm_base_bytes.proofs.Bytes.{AreBytes-bytes_of}
use Rattle.fm_segment_access.proofs.{Learnt.{after_put}, Putting.{put_one}, PuttingAlone.{pieces_put}}
use Rattle.fm_segment_access.proofs.number.put_number.Goals as goal

pub returns-then-place-from-le8 : goal.returns-then-place-from-le8
returns-then-place-from-le8 g c =
    let fits : c.args.place % 8 + c.args.width ≤ 8 = (let t = c.if-place-from-le8.true in let e = c.from.ensures in omega arith) in
    after_put pieces_put c.requires.outside c.requires.known (AreBytes-bytes_of c.args.width c.args.number)
    (put_one c.args.arena c.args.place c.args.width c.args.number c.read.result c.put_piece.result c.requires.some fits c.read.ensures c.requires.outside
    c.put_piece.ensures.outside c.put_piece.ensures.did)

pub returns-else-place-from-le8 : goal.returns-else-place-from-le8
returns-else-place-from-le8 g c = after_put pieces_put c.requires.outside c.requires.known (AreBytes-bytes_of c.args.width c.args.number) c.put_across.ensures
