-- A row is added, or the rows at each index of the first dim.
use Rattle.std.proofs.{Common.{◌≡◌, ◌-◌, ◌≤◌, List, ◌∷◌, length, get_or, take, drop, arith}, lemmas.Result.{err_from_is_err_and}}
use Rattle.fm_path_meaning.specs.declared.dim.Dim.{Dim}
use Rattle.fm_records.proofs.{Adding.{added_start, added_all}, Reaching.{turn_inside, turn_can, turn_added, turn_stops}, Shapes.{is_some, nothing}}
use Rattle.fm_records.proofs.row.+adding.Goals as goal

by : {dims : List Dim} → 1 ≤ length dims → dims ≡ get_or dims 0 nothing ∷ take (length dims - 1) (drop 1 dims)
by {dims} some = is_some dims (length dims - 1) some (omega arith)

pub add_rows-loop-i-init : goal.add_rows-loop-i-init
add_rows-loop-i-init g t c = added_start (g.M.Memory.view c.args.m.now)

pub add_rows-reach_of-requires : goal.add_rows-reach_of-requires
add_rows-reach_of-requires g t c = turn_inside c.requires.can c.loop-i.invariant c.loop-i-test.true

pub add_rows-add_all-requires : goal.add_rows-add_all-requires
add_rows-add_all-requires g t c κs within =
    (omega (arith, c.decreases, c.requires.some), (within, turn_can c.requires.can c.loop-i.invariant c.loop-i-test.true c.reach_of.ensures (by c.requires.some)))

pub add_rows-returns-in_err-add_all : goal.add_rows-returns-in_err-add_all
add_rows-returns-in_err-add_all g t c =
    let p = err_from_is_err_and c.from_residual.result c.from_residual.ensures.1 in
    rw (p.1, p.2)
    (turn_stops c.requires.can c.loop-i.invariant c.loop-i-test.true c.reach_of.ensures (by c.requires.some) c.add_all.new.found c.in_err-add_all.field-0.0
    c.in_err-add_all.ensures)

pub add_rows-loop-i-preserved : goal.add_rows-loop-i-preserved
add_rows-loop-i-preserved g t c =
    turn_added c.requires.can c.loop-i.invariant c.loop-i-test.true c.reach_of.ensures (by c.requires.some) c.add_all.new.found c.in_ok-add_all.field-0
    c.in_ok-add_all.ensures

pub add_rows-returns : goal.add_rows-returns
add_rows-returns g t c = added_all c.loop-i.invariant (omega arith)
