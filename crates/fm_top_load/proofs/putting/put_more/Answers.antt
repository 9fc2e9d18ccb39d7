use Rattle.std.proofs.Common.{Err, ap}
use Rattle.fm_top_load.{specs.Putting.{none_given}, proofs.{Grown.{grew}, Holding.{refusal_wants, refused_held, refused_only}}}
use Rattle.fm_top_load.proofs.putting.put_more.Goals as goal

pub returns-in-Err : goal.returns-in-Err
returns-in-Err g c =
    let after = c.in-Err.ensures in
    let did = after.did in
    record {
      did = record { own = did.own; does = none_given did.own did.does; makes = did.makes };
      alone = λ fits. record {
        held = (refused_held _ _ _ _ _ fits.held fits.room after.outside did).held;
        elsewhere = refused_only _ _ _ _ _ fits.held fits.room did;
        wants = refusal_wants g.M.Memory.nature _ _ _ _ _ fits.held fits.room did after.comes (λ is. after.pool_full (ap Err is));
      };
      outside = after.outside;
      lasts = after.lasts;
    }

pub returns : goal.returns
returns g c =
    let after = c.in-Ok.ensures in
    grew c.args.bytes.now c.in-Ok.place after.did g.M.Memory.nature c.put_bytes.result after.outside after.lasts c.put_bytes.ensures
