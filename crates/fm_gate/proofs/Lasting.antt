-- What a hold outlives.
use Rattle.std.proofs.Common.{◌∙◌, sym, ap, subst, List}
use Rattle.fm_base.specs.{declared.arena_id.ArenaId.{ArenaId}, Finds.{Rest}}
use Rattle.fm_rule_facts.specs.Views.{In}
use Rattle.fm_rule_calls.proofs.Going.{known_on}
use Rattle.fm_gate.{specs.Lasting.{HoldStands}, proofs.Outside.{made_on, of_on}}

-- The holds are among what the pass has.
pub stands : HoldStands
stands pool old new own closes hold g rest can = record {
  of = of_on pool g can.of;
  maker = can.maker ∙ sym (made_on g);
  known = known_on g hold.arena can.known;
  held = subst (λ (hs : List ArenaId). In hold.arena hs) (sym (ap (λ (x : Rest). x.holds) rest)) can.held;
  by_hand = can.by_hand;
}
