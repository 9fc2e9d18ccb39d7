use Rattle.std.proofs.Common.{ap, ℕ, ◌+◌}
use Rattle.fm_rule_facts.specs.Steps.{part, entries, noted}
use Rattle.fm_rule.proofs.{Knowing.{opened}, Making.{can_raise_term}, Stepping.{step_stepped}}
use Rattle.fm_rule.proofs.numbering.step_raise_term.Goals as goal

pub store_as-requires-clause-can : goal.store_as-requires-clause-can
store_as-requires-clause-can c =
    can_raise_term (opened c.pass.view_is c.requires.of c.pass.invariant)
    c.requires.joined c.requires.fits c.term_place-place.ensures (ap (λ (n : ℕ). n + 1) c.from-next.ensures)

pub returns : goal.returns
unfolding part entries noted
returns c = step_stepped c.pass.view_is c.pass.invariant c.store_as.ensures
