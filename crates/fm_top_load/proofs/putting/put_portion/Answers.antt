use Rattle.std.proofs.{Common.{◌<◌, length, sym, subst, arith}, lemmas.List.Elements.{All-from_get_or}}
use Rattle.fm_top_load.specs.{Filled.{AfterPutPortion}, Putting.{CanHold}, declared.room.Room.{Room}}
use Rattle.fm_top_load.proofs.Grown.{put_given, put_growing}
use Rattle.fm_top_load.proofs.putting.put_portion.Goals as goal

pub put_bytes-requires : goal.put_bytes-requires
put_bytes-requires g c =
    subst (λ (k : Room). CanHold (g.M.Memory.view c.args.m.now) k c.args.behind (length c.args.bytes.now)) c.in-Given.is c.requires

pub put_more-requires : goal.put_more-requires
put_more-requires g c =
    (subst (λ (k : Room). CanHold (g.M.Memory.view c.args.m.now) k c.args.behind (length c.args.bytes.now)) c.in-Growing.is c.requires).0

pub returns-in-Given : goal.returns-in-Given
returns-in-Given g c =
    let are = All-from_get_or (λ b. b < 256) c.args.bytes.now 0 (λ i below. omega (arith, c.type_inv.bytes i)) in
    let v = g.M.Memory.view in
    subst (λ (k : Room). AfterPutPortion g.M.Memory.nature (v c.args.m.now) (v c.put_bytes.new.m) k c.args.behind c.args.bytes.now c.put_bytes.result)
    (sym c.in-Given.is) (put_given g.M.Memory.nature c.put_bytes.result are c.put_bytes.ensures)

pub returns-in-Growing : goal.returns-in-Growing
returns-in-Growing g c =
    let are = All-from_get_or (λ b. b < 256) c.args.bytes.now 0 (λ i below. omega (arith, c.type_inv.bytes i)) in
    let v = g.M.Memory.view in
    let hold = subst (λ (k : Room). CanHold (v c.args.m.now) k c.args.behind (length c.args.bytes.now)) c.in-Growing.is c.requires in
    subst (λ (k : Room). AfterPutPortion g.M.Memory.nature (v c.args.m.now) (v c.put_more.new.m) k c.args.behind c.args.bytes.now c.put_more.result)
    (sym c.in-Growing.is) (put_growing g.M.Memory.nature c.put_more.result are hold.1 c.put_more.ensures)
