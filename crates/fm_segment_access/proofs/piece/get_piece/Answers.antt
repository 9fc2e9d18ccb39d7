use Rattle.std.proofs.Common.{◌/◌, [], ◌∷◌, refl, ◌∙◌}
use Rattle.fm_base.specs.Calls.{Read, Found}
use Rattle.fm_segment_access.proofs.Touching.{visited_inside}
use Rattle.fm_segment_access.proofs.piece.get_piece.Goals as goal

pub returns : goal.returns
returns g c =
    let e = c.in_ok-enter.ensures in
    let word = c.load-word.result in
    visited_inside ((Read c.args.arena (c.args.place / 8), Found word) ∷ []) e.did (c.load-word.ensures.inside ∙ e.inside) c.load-word.ensures.did
    (rw e.inside at c.load-word.ensures.did.does) c.leave.ensures (λ may. (may, record { word = word; visits = refl; value = c.read.ensures }))
