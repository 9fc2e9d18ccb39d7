use Rattle.std.proofs.{Common.{◌/◌, refl, w64}, lemmas.Int.{to_z-of_z}}
use Rattle.fm_base.specs.Calls.{Write, Fine}
use Rattle.fm_handle.{specs.Acts.{Stores, word_of}, proofs.Visiting.{one_act}}
use Rattle.fm_handle.proofs.visits.store_long.Goals as goal

pub returns : goal.returns
returns g c =
    one_act c.args.arena (λ (u : Unit {0}). Stores c.args.arena c.args.place (word_of c.args.order c.args.v)) (tt {0}) _
    (λ a. Write a (c.args.place / 8) c.word_of.result) Fine refl (rw (c.word_of.ensures, to_z-of_z w64 c.args.v c.ranges.v) refl)
    c.in_ok-enter.ensures.did c.store.ensures.did c.leave.ensures.did c.leave.ensures.outside
