use Rattle.std.proofs.{Common.{◌<◌, arith}, lemmas.List.Elements.{All-from_get_or}}
use Rattle.fm_top_load.proofs.Holding.{put_only, put_still}
use Rattle.fm_top_load.proofs.held.put_held.Goals as goal

pub returns-clause-puts : goal.returns-clause-puts
returns-clause-puts g c =
    let v = g.M.Memory.view in
    let old = v c.args.m.now in
    let new = v c.put_bytes.new.m in
    let d = c.in-Ok.ensures.did in
    let changes = c.in-Ok.ensures.alone c.requires.held.by_itself in
    let still = put_still old new d.own c.args.arena c.args.place c.args.bytes.now c.requires.held d.makes c.in-Ok.ensures.outside changes c.requires.room in
    record {
      held = still.held;
      given = still.given_is;
      stand = changes.changed;
      elsewhere = put_only old new c.args.arena c.args.place c.args.bytes.now changes;
    }

pub returns-clause-are : goal.returns-clause-are
returns-clause-are g c = All-from_get_or (λ b. b < 256) c.args.bytes.now 0 (λ i below. omega (arith, c.type_inv.bytes i))
