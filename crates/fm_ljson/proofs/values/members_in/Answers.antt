use Rattle.std.proofs.Common.{Some, List, map, option_map, ap, sym, ◌∙◌}
use Rattle.serde_json.specs.{View.{view}, declared.value.Value.{Value}}
use Rattle.fm_ljson.{specs.Node.{list_of}, proofs.Inside.{list_of-items_of}}
use Rattle.fm_ljson.proofs.values.members_in.Goals as goal

pub returns-in-Some : goal.returns-in-Some
returns-in-Some c =
    ap (λ (vs : List Value). Some (map view vs)) c.as_slice.ensures.value
    ∙ ap Some (sym (list_of-items_of (map view c.in-Some.items.now.items)))
    ∙ ap (option_map list_of) c.in-Some.ensures
