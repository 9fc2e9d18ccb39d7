use Rattle.std.proofs.Common.{◌∙◌, ◌+◌, ap, map, subst, sym, arith, List, refl}
use Rattle.serde_json.specs.{Data.{Data}, View.{view}}
use Rattle.fm_ljson_write.{specs.Canonical.{json_of}, proofs.Rest.{IsFilling, deep_element, deep_member, filling_more, filling_end, impossible, viewed_last}}
use Rattle.fm_ljson_write.proofs.canonical.+writing.Goals as goal

pub items_of-returns-in_default : goal.items_of-returns-in_default
items_of-returns-in_default t c = absurd (impossible c.loop-i.i c.args.count c.args.layout.now c.loop-i-test.true c.requires c.in_default.ensures)

pub items_of-json_of-requires : goal.items_of-json_of-requires
items_of-json_of-requires t c = (omega (arith, deep_member c.loop-i.i c.args.layout.now c.in-Some.member.now c.in-Some.ensures, c.decreases), tt)

pub items_of-loop-i-preserved : goal.items_of-loop-i-preserved
items_of-loop-i-preserved t c =
    let layout = c.args.layout.now in
    let member = c.in-Some.member.now in
    let items = map view c.loop-i.items.items in
    let added = ap (map view) c.in_ok-push.ensures.items ∙ viewed_last c.loop-i.items.items c.in_ok-json_of.field-0 (json_of member) c.in_ok-json_of.ensures in
    subst (λ (ds : List Data). IsFilling ds (c.loop-i.i + 1) layout) (sym added)
    (filling_more items (json_of member) c.loop-i.i layout member c.loop-i.invariant c.in-Some.ensures refl)

pub items_of-returns : goal.items_of-returns
items_of-returns t c = filling_end (map view c.loop-i.items.items) c.loop-i.i c.args.layout.now c.loop-i.invariant
    (omega (arith, c.requires, c.loop-i-test.false))

pub sequence_json-json_of-requires : goal.sequence_json-json_of-requires
sequence_json-json_of-requires t c = (omega (arith, deep_element c.args.layout.now c.in-Some.element.now c.in-Some.ensures, c.decreases), tt)
