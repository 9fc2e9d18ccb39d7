use Rattle.std.proofs.{Common.{ℕ, ◌+◌, arith}, lemmas.List.{length-take}}
use Rattle.fm_top_load.proofs.Following.{buffer_kept, filled_reads, filled_some, goes_by}
use Rattle.fm_top_load.proofs.portion.read_into.Goals as goal

pub returns-in-Err-Missing-clause-reads : goal.returns-in-Err-Missing-clause-reads
returns-in-Err-Missing-clause-reads g c = filled_some c.fill.ensures.reads (omega (arith, length-take {A = ℕ})) (omega (arith, length-take {A = ℕ}))

pub returns-in-Err-Failed-clause-reads : goal.returns-in-Err-Failed-clause-reads
returns-in-Err-Failed-clause-reads g c = filled_some c.fill.ensures.reads (omega (arith, length-take {A = ℕ})) (omega (arith, length-take {A = ℕ}))

pub returns-in-Err-Memory-clause-reads : goal.returns-in-Err-Memory-clause-reads
returns-in-Err-Memory-clause-reads g c = filled_some c.fill.ensures.reads (omega (arith, length-take {A = ℕ})) (omega (arith, length-take {A = ℕ}))

pub returns-then-count-rest-clause-reads : goal.returns-then-count-rest-clause-reads
returns-then-count-rest-clause-reads g c = filled_some c.fill.ensures.reads (omega (arith, length-take {A = ℕ})) (omega (arith, length-take {A = ℕ}))

pub returns-clause-reads : goal.returns-clause-reads
returns-clause-reads g c =
    let n = c.in-Ok.count in
    filled_reads c.in-Ok.ensures.reads (omega arith) (omega (arith, length-take {A = ℕ})) (omega (arith, length-take {A = ℕ}))
    (λ next goes. goes_by _ _ c.min-room.result n (c.args.stretch.now.at + n) next (omega (arith, length-take {A = ℕ}))
    (omega (arith, length-take {A = ℕ}, c.in-Ok.ensures.filled.count)) (omega arith) goes)

pub returns-in-Err-Missing-clause-room : goal.returns-in-Err-Missing-clause-room
returns-in-Err-Missing-clause-room g c = buffer_kept _ _ c.min-room.result c.fill.auto.buf c.requires.room

pub returns-in-Err-Failed-clause-room : goal.returns-in-Err-Failed-clause-room
returns-in-Err-Failed-clause-room g c = buffer_kept _ _ c.min-room.result c.fill.auto.buf c.requires.room

pub returns-in-Err-Memory-clause-room : goal.returns-in-Err-Memory-clause-room
returns-in-Err-Memory-clause-room g c = buffer_kept _ _ c.min-room.result c.fill.auto.buf c.requires.room

pub returns-then-count-rest-clause-room : goal.returns-then-count-rest-clause-room
returns-then-count-rest-clause-room g c = buffer_kept _ _ c.min-room.result c.fill.auto.buf c.requires.room

pub returns-clause-room : goal.returns-clause-room
returns-clause-room g c = buffer_kept _ _ c.min-room.result c.fill.auto.buf c.requires.room
