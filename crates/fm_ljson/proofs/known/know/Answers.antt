use Rattle.std.{proofs.Common.{refl}, specs.BTreeMap.{get_by_text}}
use Rattle.serde_json.specs.View.{view}
use Rattle.fm_ljson.proofs.Knowing.{again_known, again_refused, learnt_node}
use Rattle.fm_ljson.proofs.known.know.Goals as goal

pub returns-in-Ok-clause-known : goal.returns-in-Ok-clause-known
returns-in-Ok-clause-known c = λ trees h.
    learnt_node (get_by_text c.args.types.now) trees h c.args.place _ c.requires.below refl refl (c.in-Ok.ensures trees h)

pub returns-in-None-clause-known : goal.returns-in-None-clause-known
returns-in-None-clause-known c =
    again_known (get_by_text c.args.types.now) (view c.args.value.now) c.know_again.result c.in-None.ensures c.know_again.ensures.known

pub returns-in-None-clause-refused : goal.returns-in-None-clause-refused
returns-in-None-clause-refused c =
    again_refused (get_by_text c.args.types.now) (view c.args.value.now) c.know_again.result c.in-None.ensures c.know_again.ensures.refused
