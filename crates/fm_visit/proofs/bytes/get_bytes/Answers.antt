use Rattle.std.proofs.Common.{◌≡◌, ◌+◌, length, sym, ap, ◌∙◌, Ok}
use Rattle.fm_segment.proofs.Exits.{gave}
use Rattle.fm_segment.specs.Slices.{slice_of}
use Rattle.fm_visit.proofs.Loading.{bytes_got, bytes_not_got, slice_fits}
use Rattle.fm_visit.proofs.bytes.get_bytes.Goals as goal

pub returns-in_err-slice-clause-got : goal.returns-in_err-slice-clause-got
returns-in_err-slice-clause-got g c =
    rw (gave c.from_residual.ensures.1) (bytes_not_got c.requires c.args.offset c.args.into.now (sym c.as_slice.ensures ∙ c.in_err-slice.was))

pub returns-clause-got : goal.returns-clause-got
returns-clause-got g c =
    let is : slice_of c.args.offset (length c.args.into.now) c.args.s.now ≡ Ok c.in_ok-slice.slice = sym c.as_slice.ensures ∙ c.in_ok-slice.was in
    let at : c.first.result ≡ c.args.s.now.first + c.args.offset = c.first.ensures.first ∙ (slice_fits c.args.s.now c.args.offset (length c.args.into.now) is).1 in
    bytes_got c.requires c.args.offset c.get_all.new.into (ap (λ n. slice_of c.args.offset n c.args.s.now) c.get_all.ensures.size ∙ is)
    (rw (c.arena.ensures, at) at c.get_all.ensures.did) (rw c.arena.ensures at c.get_all.ensures.inside)
