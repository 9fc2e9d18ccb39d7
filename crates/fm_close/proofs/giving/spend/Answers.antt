use Rattle.std.proofs.Common.{◌∙◌, sym, arith}
use Rattle.fm_gate.proofs.Outside.{of_on}
use Rattle.fm_close.proofs.Backs.{owner_after, spent_one, spent_last}
use Rattle.fm_close.proofs.giving.spend.Goals as goal

pub alive_holds-requires : goal.alive_holds-requires
alive_holds-requires g c = owner_after c.requires c.back-word.ensures

pub unreachable-unreachable : goal.unreachable-unreachable
unreachable-unreachable g c = c.back-word.ensures.alive (sym c.alive_holds.ensures ∙ c.in-None.is)

pub returns-then-holds-gt0 : goal.returns-then-holds-gt0
returns-then-holds-gt0 g c = spent_one c.requires c.back-word.ensures c.in-Some.holds (sym c.alive_holds.ensures ∙ c.in-Some.is) c.if-holds-gt0.true

pub of-requires : goal.of-requires
of-requires g c = of_on c.args.pool.now c.back-word.ensures.goes c.requires.outside.of

pub returns : goal.returns
returns g c =
    rw c.of.ensures.same (spent_last c.requires c.back-word.ensures c.of.result c.of.ensures.maker c.in-Some.holds
    (sym c.alive_holds.ensures ∙ c.in-Some.is) (let l = c.if-holds-gt0.false in omega arith))
