use Rattle.std.proofs.Common.{refl}
use Rattle.fm_segment_access.proofs.Touching.{visited_inside}
use Rattle.fm_segment_access.proofs.piece.put_piece.Goals as goal

pub returns : goal.returns
returns g c =
    let d = c.put_inside.ensures.did in
    visited_inside d.does.acts c.in_ok-enter.ensures.did c.put_inside.ensures.inside d d.does.entries c.leave.ensures
    (λ may. (may, record { acts = d.does.acts; puts = d.does.puts; visits = refl }))
