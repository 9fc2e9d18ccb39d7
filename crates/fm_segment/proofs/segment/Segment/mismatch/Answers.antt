use Rattle.std.proofs.{Common.{rules, w64}, lemmas.Int.{to_z-of_z}}
use Rattle.fm_segment.proofs.{Exits.{gave}, Learning.{after_mismatch, after_no_mismatch}}
use Rattle.fm_segment.proofs.segment.Segment.mismatch.Goals as goal

pub returns-in_err-found : goal.returns-in_err-found
returns-in_err-found g c = rw (gave c.from_residual.ensures.1) (after_no_mismatch c.requires (search rules))

pub returns : goal.returns
returns g c =
    rw (to_z-of_z w64 c.answer_of.result (record { sfits = c.answer_of.type_inv })) (after_mismatch c.requires
    (rw (c.size-3.ensures.size, c.size-4.ensures.size) at c.answer_of.ensures) (search rules))
