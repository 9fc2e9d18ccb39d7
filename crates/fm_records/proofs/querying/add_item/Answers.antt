-- An item's values are read, or there are none.
use Rattle.std.proofs.{Common.{◌+◌, ◌-◌, [], length, refl, sym, ap, ◌∙◌, w64, rules, arith}, lemmas.Int.{to_z-of_z}}
use Rattle.fm_base.specs.declared.refusal.Refusal.TheVariants.{Closed}
use Rattle.fm_path.specs.Wide.{wide_dims}
use Rattle.fm_records.proofs.{Adding.{value_added, value_stops}, Items.{item_closed, item_counted, item_inside, item_open, item_room}, Shapes.{is_none, is_some}}
use Rattle.fm_records.proofs.querying.add_item.Goals as goal

pub returns-in-Count : goal.returns-in-Count
returns-in-Count g c =
    item_counted (g.M.Memory.view c.args.m.now) c.args.s.now c.args.place c.args.kept.now c.args.item.now.asked c.args.found.now c.add_records.new.self
    c.in-Count.is c.add_records.ensures

-- ---- one value

pub overflow_add-place : goal.overflow_add-place
overflow_add-place g c =
    let none = is_none c.wide.result.now c.in-empty.len_below in
    let within = item_inside c.args.s.now c.args.place c.args.item.now.asked c.in-Of.is c.offset.ensures (sym none ∙ c.wide.ensures ∙ ap wide_dims c.dims.ensures)
    refl c.requires.readable in
    omega (arith, (within.lies [] tt).within, c.requires.can.ends)

pub number_at-requires-clause-lies : goal.number_at-requires-clause-lies
number_at-requires-clause-lies g c =
    let none = is_none c.wide.result.now c.in-empty.len_below in
    let within = item_inside c.args.s.now c.args.place c.args.item.now.asked c.in-Of.is c.offset.ensures (sym none ∙ c.wide.ensures ∙ ap wide_dims c.dims.ensures)
    c.value.ensures c.requires.readable in
    within.lies [] tt

pub add_number-requires : goal.add_number-requires
add_number-requires g c =
    let none = is_none c.wide.result.now c.in-empty.len_below in
    item_room c.args.s.now c.args.place c.args.item.now.asked c.in-Of.is c.offset.ensures (sym none ∙ c.wide.ensures ∙ ap wide_dims c.dims.ensures)
    c.value.ensures c.args.found.now c.requires.open.room

pub returns-in-Some : goal.returns-in-Some
returns-in-Some g c =
    let none = is_none c.wide.result.now c.in-empty.len_below in
    item_closed c.args.s.now c.args.place c.args.item.now.asked c.in-Of.is c.offset.ensures (sym none ∙ c.wide.ensures ∙ ap wide_dims c.dims.ensures)
    c.value.ensures c.args.kept.now c.number_at.new.kept c.args.found.now c.add_number.new.self c.add_number.result refl c.requires.open.kind
    (value_added c.args.s.now c.value.result.now (c.args.place + c.offset.result) _ c.args.kept.now c.number_at.new.kept c.in-Some.number _
    c.args.found.now c.add_number.new.self c.add_number.result (to_z-of_z w64 c.in-Some.number (search rules)) c.add_number.ensures.ok
    c.add_number.ensures.same c.add_number.ensures.memory c.in-Some.ensures)

pub returns-in-None : goal.returns-in-None
returns-in-None g c =
    let none = is_none c.wide.result.now c.in-empty.len_below in
    item_closed c.args.s.now c.args.place c.args.item.now.asked c.in-Of.is c.offset.ensures (sym none ∙ c.wide.ensures ∙ ap wide_dims c.dims.ensures)
    c.value.ensures c.args.kept.now c.number_at.new.kept c.args.found.now c.args.found.now _ refl c.requires.open.kind
    (value_stops c.args.s.now c.value.result.now (c.args.place + c.offset.result) _ c.args.kept.now c.number_at.new.kept c.args.found.now Closed
    c.in-None.ensures)

-- ---- rows

pub add_open-requires-clause-inside : goal.add_open-requires-clause-inside
add_open-requires-clause-inside g c =
    let ds = c.wide.result.now in
    let some = is_some ds (length ds - 1) c.in-len1-up.len_at_least (omega arith) in
    item_inside c.args.s.now c.args.place c.args.item.now.asked c.in-Of.is c.offset-in-len1-up.ensures
    (sym some ∙ c.wide.ensures ∙ ap wide_dims c.dims.ensures) c.value-in-len1-up.ensures c.requires.readable

pub add_open-requires-clause-room : goal.add_open-requires-clause-room
add_open-requires-clause-room g c =
    let ds = c.wide.result.now in
    let some = is_some ds (length ds - 1) c.in-len1-up.len_at_least (omega arith) in
    item_room c.args.s.now c.args.place c.args.item.now.asked c.in-Of.is c.offset-in-len1-up.ensures
    (sym some ∙ c.wide.ensures ∙ ap wide_dims c.dims.ensures) c.value-in-len1-up.ensures c.args.found.now c.requires.open.room

pub returns-in-len1-up : goal.returns-in-len1-up
returns-in-len1-up g c =
    let ds = c.wide.result.now in
    let some = is_some ds (length ds - 1) c.in-len1-up.len_at_least (omega arith) in
    item_open c.args.s.now c.args.place c.args.item.now.asked c.in-Of.is c.offset-in-len1-up.ensures
    (sym some ∙ c.wide.ensures ∙ ap wide_dims c.dims.ensures) c.value-in-len1-up.ensures c.args.kept.now c.add_open.ensures.0 c.args.found.now
    c.add_open.new.found c.add_open.result (λ e. cc) c.requires.open.kind c.add_open.ensures.1
