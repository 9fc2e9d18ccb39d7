-- Types are gone through from the first to the last, each known by those before it.
use Rattle.std.{proofs.{Common.{◌+◌, ◌≤◌, ap, length, arith, drop, List, map, subst}, lemmas.List.{drop_all}}, specs.BTreeMap.{get_by_text}}
use Rattle.serde_json.specs.View.{view}
use Rattle.fm_ljson.{specs.{Documents.{Numbered}, Views.{numbered_view}}, specs.declared.types.NumberedRef.{NumberedRef}}
use Rattle.fm_ljson.proofs.{Learning.{IsLearning, learning_end, learning_more, learning_start}, Measuring.{entry_item}, Reading.{none_defined}}
use Rattle.fm_ljson.proofs.types.build_all.Goals as goal

pub loop-place-init : goal.loop-place-init
loop-place-init c =
    learning_start (get_by_text c.new-types.result) (map numbered_view c.args.parts.now.entries.items) (view c.args.layout.now)
    (none_defined c.new-types.result c.new-types.ensures.empty) c.requires

pub loop-place-preserved : goal.loop-place-preserved
loop-place-preserved c =
    let types = get_by_text c.loop-place.types in
    let entries = c.args.parts.now.entries.items in
    let n = c.loop-place.place in
    let next = entry_item (λ es. es) entries _ n c.entry-item.result c.deref-entry-items.ensures.value c.loop-place-test.true c.entry-item.is in
    let here = subst (λ (es : List Numbered). IsLearning types n (map numbered_view entries) es (view c.args.layout.now)) next c.loop-place.invariant in
    learning_more types (get_by_text c.define.new.known) n (map numbered_view entries) (map numbered_view (drop (n + 1) entries))
    (numbered_view c.entry-item.result) (view c.args.layout.now) c.in_ok-known.known here c.in_ok-known.ensures.safe c.in_ok-known.ensures.place
    c.in_ok-known.ensures.known c.in_ok-define.ensures

pub returns : goal.returns
returns c =
    let entries = c.args.parts.now.entries.items in
    let past : length entries ≤ c.loop-place.place =
    subst (λ (es : List NumberedRef). length es ≤ c.loop-place.place) c.deref-entry-items.ensures.value c.loop-place-test.false in
    learning_end (get_by_text c.loop-place.types) c.loop-place.place _ (map numbered_view entries) _ (view c.args.layout.now) c.build.result
    c.loop-place.invariant (ap (λ (es : List NumberedRef). map numbered_view es) (drop_all c.loop-place.place entries past))
    (omega (arith, c.loop-place-test.false, c.loop-place.auto.place-end, c.len.ensures)) c.build.ensures
