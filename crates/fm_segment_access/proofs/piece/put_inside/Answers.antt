use Rattle.std.proofs.Common.{◌/◌, ◌%◌, [], ◌∷◌, refl, arith}
use Rattle.fm_base.specs.{declared.arena_id.ArenaId.{ArenaId}, Calls.{Write, Fine}, Does.{patched}, Visits.{entries_of}}
use Rattle.fm_base.proofs.Visiting.{act_makes, patch_makes, Tries-alike}
use Rattle.fm_base_bytes.specs.Bytes.{replaced}
use Rattle.fm_segment_access.{specs.Pieces.{whole, narrow}, proofs.Patching.{patched_is}}
use Rattle.fm_segment_access.proofs.piece.put_inside.Goals as goal

pub returns-then-width-eq8-clause-did : goal.returns-then-width-eq8-clause-did
returns-then-width-eq8-clause-did g c =
    let v = g.M.Memory.view in
    let k = (v c.args.m.now).caller in
    let write = λ (id : ArenaId). Write id (c.args.place / 8) c.args.v in
    let acts = (Write c.args.arena (c.args.place / 8) c.args.v, Fine) ∷ [] in
    record {
      own = entries_of k acts;
      does = record { acts = acts; puts = whole c.if-width-eq8.true; entries = refl };
      makes = act_makes (v c.args.m.now) (v c.store.new.self) c.args.arena k write Fine c.requires.inside refl c.store.ensures.did;
    }

pub returns-else-width-eq8-clause-did : goal.returns-else-width-eq8-clause-did
returns-else-width-eq8-clause-did g c =
    let v = g.M.Memory.view in
    let at = c.args.place % 8 in
    let p = patch_makes (v c.args.m.now) (v c.patch.new.self) c.args.arena (c.args.place / 8) c.mask.result c.bits.result c.patch.result c.requires.inside
    c.patch.ensures.did in
    let same = patched_is at c.args.width c.args.v c.mask.result c.bits.result c.patch.result c.requires.within c.requires.fits c.patch.type_inv c.mask.ensures
    c.bits.ensures in
    let tries = Tries-alike c.args.arena (c.args.place / 8) (patched c.mask.result c.bits.result) (λ w. replaced w at c.args.width c.args.v) c.patch.result
    p.acts same p.tries in
    record {
      own = entries_of (v c.args.m.now).caller p.acts;
      does = record { acts = p.acts; puts = narrow c.patch.result p.acts (omega arith) tries; entries = refl };
      makes = p.makes;
    }
