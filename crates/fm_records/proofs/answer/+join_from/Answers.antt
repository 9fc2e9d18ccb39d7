-- Items are joined one by one; after a want of memory they are as they were.
use Rattle.std.proofs.Common.{◌≡◌, length, vec_len, arith}
use Rattle.fm_records.proofs.Steps.{step, adds, joins, undoes, none_left, is_left}
use Rattle.fm_records.proofs.answer.+join_from.Goals as goal

pub returns-then-k-len : goal.returns-then-k-len
returns-then-k-len t c =
    let theirs : vec_len c.args.next.now ≡ length c.args.next.now.items = omega (arith, c.args.next.now.ok.0) in
    let ends = none_left c.args.k c.args.found.now.items c.args.next.now.items c.requires.join (omega (arith, theirs, c.len.ensures, c.if-k-len.true)) in
    record { ok = ends; same = tt; memory = tt }

pub index_mut-requires : goal.index_mut-requires
index_mut-requires t c =
    let mine : vec_len c.args.found.now ≡ length c.args.found.now.items = omega (arith, c.args.found.now.ok.0) in
    omega (arith, mine, is_left c.args.found.now c.args.next.now c.requires.join c.len.ensures c.if-k-len.false)

pub add-requires : goal.add-requires
add-requires t c =
    adds (step c.args.found.now c.args.next.now c.requires.join c.len.ensures c.if-k-len.false c.index_mut.ensures.value c.index.ensures
    c.in_ok-lengthen.ensures.ok) c.join_from.new.found.items _ _ c.index_mut-in-Ok.ensures.value c.index-in-Ok.ensures
    c.in-Ok.ensures.ok

pub returns-in-Ok : goal.returns-in-Ok
returns-in-Ok t c =
    let all = joins (step c.args.found.now c.args.next.now c.requires.join c.len.ensures c.if-k-len.false c.index_mut.ensures.value c.index.ensures
    c.in_ok-lengthen.ensures.ok) c.join_from.new.found.items _ _ c.index_mut-in-Ok.ensures.value c.index-in-Ok.ensures
    c.in-Ok.ensures.ok c.add.new.self c.add.ensures in
    record { ok = all; same = tt; memory = tt }

pub returns-in-Err : goal.returns-in-Err
returns-in-Err t c =
    let back = undoes (step c.args.found.now c.args.next.now c.requires.join c.len.ensures c.if-k-len.false c.index_mut.ensures.value c.index.ensures
    c.in_ok-lengthen.ensures.ok) c.join_from.new.found.items _ _ c.index_mut-in-Err.ensures.value c.index-in-Err.ensures
    c.shorten.new.self c.in-Err.ensures.same c.shorten.ensures in
    record { ok = tt; same = back; memory = c.in-Err.ensures.memory }
