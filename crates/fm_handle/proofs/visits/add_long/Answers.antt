use Rattle.std.proofs.{Common.{◌/◌, refl, w64}, lemmas.Int.{to_z-of_z}}
use Rattle.fm_base.specs.Calls.{Add, Found}
use Rattle.fm_handle.{specs.Acts.{AddsLong}, proofs.Visiting.{one_act}}
use Rattle.fm_handle.proofs.visits.add_long.Goals as goal

pub returns : goal.returns
returns g c =
    rw (to_z-of_z w64 c.long_in.result (record { sfits = c.long_in.type_inv })) (one_act c.args.arena
    (AddsLong c.args.arena c.args.place c.args.delta) c.long_in.result _ (λ a. Add a (c.args.place / 8) c.word_of.result) (Found c.add-found.result) refl
    (record { word = c.add-found.result; adds = rw (c.word_of.ensures, to_z-of_z w64 c.args.delta c.ranges.delta) refl; value = c.long_in.ensures })
    c.in_ok-enter.ensures.did c.add-found.ensures.did c.leave.ensures.did c.leave.ensures.outside)
