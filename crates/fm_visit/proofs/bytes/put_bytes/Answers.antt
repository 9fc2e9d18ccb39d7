use Rattle.std.proofs.Common.{length, sym, refl, ◌∙◌, arith}
use Rattle.fm_segment_access.proofs.Alone.{AreBytes-slice}
use Rattle.fm_segment.proofs.Exits.{gave}
use Rattle.fm_visit.proofs.Values.{bytes_put, bytes_not_put, put_fits, reaches}
use Rattle.fm_visit.proofs.bytes.put_bytes.Goals as goal

pub returns-in_err-check_put : goal.returns-in_err-check_put
returns-in_err-check_put g c =
    rw (gave c.from_residual.ensures.1) (bytes_not_put c.requires c.args.offset c.args.bytes.now (sym c.check_put.ensures ∙ c.in_err-check_put.was))

pub put_all-requires : goal.put_all-requires
put_all-requires g c =
    let fits = put_fits c.args.s.now c.args.offset (length c.args.bytes.now) (sym c.check_put.ensures ∙ c.in_ok-check_put.was) in
    let ends = c.first.ensures.ends in
    rw (c.arena.ensures, c.first.ensures.first) (reaches c.args.offset (length c.args.bytes.now) c.requires refl fits (omega arith))

pub returns : goal.returns
returns g c =
    bytes_put c.requires c.args.offset c.args.bytes.now (AreBytes-slice c.args.bytes.now c.type_inv.bytes) (sym c.check_put.ensures ∙ c.in_ok-check_put.was)
    (rw (c.arena.ensures, c.first.ensures.first) at c.put_all.ensures.did) (rw c.arena.ensures at c.put_all.ensures.inside)
