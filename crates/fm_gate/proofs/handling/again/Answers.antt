use Rattle.std.proofs.Common.{◌∙◌, sym}
use Rattle.fm_gate.proofs.Handles.{all_may_use, its_alive, owner_after, after_most, after_again}
use Rattle.fm_gate.proofs.handling.again.Goals as goal

pub take-word-requires-clause-may : goal.take-word-requires-clause-may
take-word-requires-clause-may g c = all_may_use c.args.id _ c.requires.automatic

pub alive_holds-requires : goal.alive_holds-requires
alive_holds-requires g c = owner_after c.requires c.take-word.ensures

pub unreachable-unreachable : goal.unreachable-unreachable
unreachable-unreachable g c = its_alive c.requires c.take-word.ensures (sym c.alive_holds.ensures ∙ c.in-None.is)

pub returns-then-holds-eq-MOST_HOLDS : goal.returns-then-holds-eq-MOST_HOLDS
returns-then-holds-eq-MOST_HOLDS g c =
    after_most c.requires c.take-word.ensures c.in-Some.holds (sym c.alive_holds.ensures ∙ c.in-Some.is) c.if-holds-eq-MOST_HOLDS.true

pub returns : goal.returns
returns g c =
    after_again c.requires c.take-word.ensures c.in-Some.holds (sym c.alive_holds.ensures ∙ c.in-Some.is) c.if-holds-eq-MOST_HOLDS.false
