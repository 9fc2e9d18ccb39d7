use Rattle.std.proofs.Common.{◌≡◌, [], take, map}
use Rattle.fm_records.specs.Answers.{item_found}
use Rattle.fm_records.proofs.answer.found_in_none.Given as goal

abbrev pub invariant-loop-item : goal.invariant-loop-item
invariant-loop-item l = l.found.items ≡ map (item_found []) (take l.item-index l.items)
