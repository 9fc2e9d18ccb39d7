use Rattle.std.proofs.Common.{sym, subst}
use Rattle.fm_base.specs.declared.arena_id.ArenaId.{ArenaId}
use Rattle.fm_rule_facts.specs.Views.{IsKnown}
use Rattle.fm_rule_calls.proofs.Going.{known_on}
use Rattle.fm_gate.proofs.Enters.{mark_goes}
use Rattle.fm_gate_tests.proofs.tests.numbers.meet_late.Goals as goal

pub step_check-word-requires-clause-known : goal.step_check-word-requires-clause-known
step_check-word-requires-clause-known g c =
    subst (λ (a : ArenaId). IsKnown c.step_mark.new.pass a) (sym c.arena-a.ensures)
    (known_on (mark_goes c.step_mark.ensures) c.args.s.now.arena c.requires.visit.known)
