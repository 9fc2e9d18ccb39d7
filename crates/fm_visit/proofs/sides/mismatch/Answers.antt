use Rattle.std.{proofs.{Common.{w64, arith}, lemmas.Int.{to_z-of_z}}}
use Rattle.fm_visit.proofs.Pairs.{both_whole, compared, second_known, small_found}
use Rattle.fm_visit.proofs.sides.mismatch.Goals as goal

pub compare_all-requires : goal.compare_all-requires
compare_all-requires g c =
    let n = rw (c.size.ensures.size, c.size-2.ensures.size) at c.min-n.ensures in
    let ends = c.first.ensures.ends in
    let ends_to = c.first-2.ensures.ends in
    rw (c.arena.ensures, c.first.ensures.first, c.arena-2.ensures, c.first-2.ensures.first) (both_whole c.requires c.min-n.result (omega arith) (omega arith) ends ends_to)

pub answer_of-requires-clause-found : goal.answer_of-requires-clause-found
answer_of-requires-clause-found g c =
    let n = rw (c.size.ensures.size, c.size-2.ensures.size) at c.min-n.ensures in
    let ends = c.first.ensures.ends in
    small_found c.compare_all.result c.min-n.result (omega arith) c.compare_all.ensures.below

pub returns-clause-found : goal.returns-clause-found
returns-clause-found g c =
    let n = rw (c.size.ensures.size, c.size-2.ensures.size) at c.min-n.ensures in
    let d = rw (c.arena.ensures, c.first.ensures.first, c.arena-2.ensures, c.first-2.ensures.first, n) at c.compare_all.ensures.did in
    let i = rw c.arena.ensures at c.compare_all.ensures.inside in
    rw (to_z-of_z w64 c.answer_of.result (record { sfits = c.answer_of.type_inv })) (compared c.requires
    (rw (c.size-3.ensures.size, c.size-4.ensures.size) at c.answer_of.ensures) d i)

pub returns-clause-known : goal.returns-clause-known
returns-clause-known g c = second_known c.requires c.compare_all.ensures.did
