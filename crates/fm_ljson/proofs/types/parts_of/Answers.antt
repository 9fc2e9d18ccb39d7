-- Entries are read from the first to the last, each behind the names of the earlier ones.
use Rattle.std.{proofs.{Common.{◌∙◌, ◌+◌, List, [], ◌∷◌, ap, drop, map, subst, sym}, lemmas.List.{map-append}}, specs.BTreeSet.{contains_text}}
use Rattle.serde_json.specs.View.{view}
use Rattle.fm_ljson.specs.{Documents.{Numbered}, Loops.{IsReading}, Views.{numbered_view}}
use Rattle.fm_ljson.proofs.Entries.{bad_at, reading_broken, reading_item, reading_more}
use Rattle.fm_ljson.proofs.types.parts_of.Goals as goal

pub returns-in-Err-clause-broken : goal.returns-in-Err-clause-broken
returns-in-Err-clause-broken c =
    let known = contains_text c.loop-value.names in
    let item = reading_item known _ c.loop-value.number (map view c.args.types.now) (view c.args.layout.now) c.args.types.now c.loop-value.value-index
    c.value-item.result
    c.loop-value-test.true c.value-item.is c.loop-value.invariant in
    bad_at _ c.in-Err.node (reading_broken known _ c.loop-value.number c.in-Err.node _ _ _ _ item c.in-Err.ensures.broken)

pub loop-value-preserved : goal.loop-value-preserved
loop-value-preserved c =
    let known = contains_text c.loop-value.names in
    let entry = numbered_view c.in-Ok.checked.0 in
    let entries = map numbered_view c.loop-value.entries.items in
    let types = map view c.args.types.now in
    let layout = view c.args.layout.now in
    let rest = map view (drop (c.loop-value.value-index + 1) c.args.types.now) in
    let item = reading_item known entries c.loop-value.number types layout c.args.types.now c.loop-value.value-index c.value-item.result c.loop-value-test.true
    c.value-item.is c.loop-value.invariant in
    let more = reading_more known (contains_text c.note.new.names) entries c.loop-value.number c.in-Ok.checked.1 types rest layout
    (view c.value-item.result) entry
    item c.in-Ok.ensures.sound c.in_ok-note.ensures in
    let pushed = ap (map numbered_view) c.in-Ok-push.ensures.items ∙ map-append numbered_view c.loop-value.entries.items (c.in-Ok.checked.0 ∷ []) in
    subst (λ (es : List Numbered). IsReading (contains_text c.note.new.names) es c.in-Ok.checked.1 types rest layout) (sym pushed) more
