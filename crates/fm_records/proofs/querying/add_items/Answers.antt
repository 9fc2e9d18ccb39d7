-- The items are added one by one.
use Rattle.std.proofs.{Common.{Err, refl, sym, subst}, lemmas.Result.{err_from_is_err_and}}
use Rattle.fm_base_lists.proofs.Each.{all_at}
use Rattle.fm_records.{specs.Adds.{IsItemReadable}, proofs.Items.{items_start, next_within, next_open, item_more, item_refused, items_all}}
use Rattle.fm_records.proofs.Seeing.{sees_still}
use Rattle.fm_records.proofs.querying.add_items.Goals as goal

pub loop-k-init : goal.loop-k-init
loop-k-init g c = items_start (g.M.Memory.view c.args.m.now) c.args.s.now c.args.place c.args.kept.now c.args.items.now c.args.found.now

pub bounds-found-k : goal.bounds-found-k
bounds-found-k g c = next_within c.loop-k.invariant c.requires.open c.loop-k-test.true

pub add_item-requires-clause-can : goal.add_item-requires-clause-can
add_item-requires-clause-can g c = sees_still c.requires.can c.loop-k.invariant.did

pub add_item-requires-clause-readable : goal.add_item-requires-clause-readable
add_item-requires-clause-readable g c =
    subst (IsItemReadable c.args.s.now c.args.place) (sym c.index-items-k.is)
    (all_at (IsItemReadable c.args.s.now c.args.place) c.loop-k.k c.args.items.now _ c.requires.readable c.loop-k-test.true)

pub add_item-requires-clause-open : goal.add_item-requires-clause-open
add_item-requires-clause-open g c =
    next_open c.loop-k.invariant c.requires.open c.loop-k-test.true c.index-items-k.result c.index-items-k.is c.index-found-k.result

pub returns-in_err-add_item : goal.returns-in_err-add_item
returns-in_err-add_item g c =
    let p = err_from_is_err_and c.from_residual.result c.from_residual.ensures.1 in
    rw (p.1, p.2)
    (item_refused c.loop-k.invariant c.requires.open c.loop-k-test.true c.index-items-k.result c.index-items-k.is c.add_item.new.found
    c.index-found-k.result (Err c.in_err-add_item.field-0.0) c.in_err-add_item.ensures (λ e. cc))

pub loop-k-preserved : goal.loop-k-preserved
loop-k-preserved g c =
    item_more c.loop-k.invariant c.requires.open c.loop-k-test.true c.index-items-k.result c.index-items-k.is c.add_item.new.found
    c.index-found-k.result _ c.in_ok-add_item.ensures refl

pub returns : goal.returns
returns g c = items_all c.loop-k.invariant c.loop-k-test.false
