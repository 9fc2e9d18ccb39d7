use Rattle.std.{proofs.{Common.{◌∙◌, ap, true}, lemmas.Map.Text.{btree_set_updates_text}}, specs.{BTreeSet.{contains_text}, Prelude.{string_bytes}}}
use Rattle.fm_ljson.specs.Refs.{also_known}
use Rattle.fm_ljson.proofs.types.note.Goals as goal

pub returns : goal.returns
returns c other =
    btree_set_updates_text (string_bytes c.in_ok-key.key) c.args.names.now c.insert.new.self true c.in_ok-insert.ensures.updates other
    ∙ ap (λ name. also_known name (contains_text c.args.names.now) other) c.in_ok-key.ensures.ok
