use Rattle.std.proofs.{Common.{w64}, lemmas.Int.{to_z-of_z}}
use Rattle.fm_visit.proofs.Visiting.{apart_elsewhere, both_here, visited_both}
use Rattle.fm_visit.proofs.visit.Visit.mismatch.Goals as goal

pub returns-then-are_elsewhere-clause-found : goal.returns-then-are_elsewhere-clause-found
returns-then-are_elsewhere-clause-found g c = apart_elsewhere c.args.b.now c.requires.first (c.are_elsewhere.ensures.yes c.if-are_elsewhere.true)

pub mismatch-requires : goal.mismatch-requires
mismatch-requires g c = both_here c.requires.first c.requires.second (c.are_elsewhere.ensures.no c.if-are_elsewhere.false)

pub returns-clause-found : goal.returns-clause-found
returns-clause-found g c =
    rw (to_z-of_z w64 c.mismatch.result (record { sfits = c.mismatch.type_inv }))
    (visited_both c.args.b.now (c.are_elsewhere.ensures.no c.if-are_elsewhere.false) c.mismatch.ensures.found)
