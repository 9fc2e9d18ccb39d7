use Rattle.std.{proofs.Common.{◌∙◌, ◌+◌, drop, map}, specs.BTreeMap.{get_by_text}}
use Rattle.serde_json.specs.View.{view}
use Rattle.fm_ljson.{specs.{Measured.{first_large}, Views.{numbered_view}}, proofs.Measuring.{entry_item, large_more}}
use Rattle.fm_ljson.proofs.types.check_sizes.Goals as goal

pub loop-entry-preserved : goal.loop-entry-preserved
loop-entry-preserved c =
    let known = get_by_text c.loop-entry.known in
    let layout = view c.args.layout.now in
    let entries = c.args.parts.now.entries.items in
    let number = c.args.parts.now.number in
    let i = c.loop-entry.entry-index in
    c.loop-entry.invariant
    ∙ entry_item (λ es. first_large known es number layout) entries _ i c.entry-item.result c.deref-entry-items.ensures.value c.loop-entry-test.true
    c.entry-item.is
    ∙ large_more known (get_by_text c.define.new.known) (numbered_view c.entry-item.result) (map numbered_view (drop (i + 1) entries)) number layout
    c.in-Some.measure c.in-Some.ensures c.in_ok-define.ensures
