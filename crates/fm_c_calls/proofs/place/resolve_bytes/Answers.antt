use Rattle.std.proofs.lemmas.Result.{IfErr-weaker}
use Rattle.fm_c_calls.specs.Placed.{unplaced}
use Rattle.fm_c_calls.proofs.place.resolve_bytes.Goals as goal

pub returns-clause-refused : goal.returns-clause-refused
returns-clause-refused c =
    IfErr-weaker c.resolve_in.result _ _ (λ e denied. unplaced c.in_ok-layout.layout c.in_ok-layout.ensures.layout denied) c.resolve_in.ensures.refused
