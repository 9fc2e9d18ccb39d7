use Rattle.std.proofs.{Common.{◌/◌, arith, refl, w64}, lemmas.Int.{to_z-of_z}}
use Rattle.fm_base.specs.Calls.{SwapIf, Found}
use Rattle.fm_handle.{specs.Acts.{ExchangesLong}, proofs.Visiting.{one_act}}
use Rattle.fm_handle.proofs.visits.exchange_long.Goals as goal

pub returns : goal.returns
returns g c =
    rw (to_z-of_z w64 c.long_in.result (record { sfits = c.long_in.type_inv })) (one_act c.args.arena
    (ExchangesLong c.args.order c.args.arena c.args.place c.args.expected c.args.v) c.long_in.result _
    (λ a. SwapIf a (c.args.place / 8) c.word_of.result c.word_of-2.result) (Found c.swap_if-found.result) refl
    (record {
      word = c.swap_if-found.result;
      small = (let fits = c.swap_if-found.type_inv in omega arith);
      swaps = rw (c.word_of.ensures, c.word_of-2.ensures, to_z-of_z w64 c.args.expected c.ranges.expected, to_z-of_z w64 c.args.v c.ranges.v) refl;
      value = c.long_in.ensures;
    })
    c.in_ok-enter.ensures.did c.swap_if-found.ensures.did c.leave.ensures.did c.leave.ensures.outside)
