use Rattle.std.proofs.Common.{ap, ◌∙◌}
use Rattle.fm_base.specs.{declared.arena_id.ArenaId.{ArenaId}, Arenas.{owner_of}}
use Rattle.fm_rule_facts.specs.{Hands.{learnt}, Views.{View}}
use Rattle.fm_gate.proofs.Bids.{generation_is, opened_in}
use Rattle.fm_gate.proofs.opening.open_in.Goals as goal

pub step_open-requires-clause-hand : goal.step_open-requires-clause-hand
step_open-requires-clause-hand c =
    ap (λ (x : View). x.hand) c.step_generation-word.ensures.is_part
    ∙ ap (learnt c.args.slot) (generation_is c.session_of-generation.result _ c.session_of-generation.ensures.session)

pub returns : goal.returns
returns c =
    opened_in c.args.slot _ c.step_generation-word.ensures c.step_open.ensures.stepped (ap (λ (a : ArenaId). a.kind) c.step_open.ensures.arena)
    (ap owner_of c.step_open.ensures.arena)
