use Rattle.std.{proofs.{Common.{◌∙◌, Some, ap}, lemmas.Map.Text.{btree_map_updates_text}}, specs.{BTreeMap.{get_by_text}, Prelude.{string_bytes}}}
use Rattle.fm_ljson.specs.Refs.{knowing}
use Rattle.fm_ljson.proofs.types.define.Goals as goal

pub returns : goal.returns
returns g c other =
    btree_map_updates_text (string_bytes c.in_ok-key.key) c.args.known.now c.insert.new.self (Some c.args.value) c.in_ok-insert.ensures.updates other
    ∙ ap (λ name. knowing name c.args.value (get_by_text c.args.known.now) other) c.in_ok-key.ensures.ok
