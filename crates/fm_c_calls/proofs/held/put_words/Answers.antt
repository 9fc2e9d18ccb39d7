use Rattle.std.proofs.Common.{refl, ◌∙◌}
use Rattle.fm_base.specs.Visits.{writes}
use Rattle.fm_base_bytes.specs.Words.{words_of}
use Rattle.fm_segment_access.proofs.Touching.{visited_inside}
use Rattle.fm_c_calls.proofs.held.put_words.Goals as goal

pub returns : goal.returns
returns c =
    let a = c.store.ensures in
    let inside = c.in-Ok.ensures.inside in
    visited_inside (writes c.args.arena 0 (words_of c.args.bytes.now)) c.in-Ok.ensures.did (a.inside ∙ inside) a.did (rw inside at a.did.does) c.leave.ensures
    (λ may. (may, refl))
