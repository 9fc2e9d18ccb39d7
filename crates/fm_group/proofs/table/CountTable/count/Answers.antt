use Rattle.std.proofs.{Common.{rules, w64, ap, sym, subst, refl, Ok, Err}, lemmas.{Int.{to_z-of_z}, Result.{err_from_is_err_and}}}
use Rattle.fm_base.specs.View.{Did}
use Rattle.fm_group.{specs.{Asked.{CanValue}, Counting.{DoesTries}, Table.{CanTable, Counter}}, proofs.{Counted.{after_count, after_none, can_try, count_unread, counted_then}, Lasting.{can_read}, ReadingOne.{read_as}}}
use Rattle.fm_group.proofs.table.CountTable.count.Goals as goal

pub returns-then-not-may_count : goal.returns-then-not-may_count
returns-then-not-may_count g c = after_none c.requires (c.if-not-may_count.ensures.no refl)

pub number-requires : goal.number-requires
number-requires g c =
    let v = g.M.Memory.view c.args.m.now in
    let values = ap (λ (w : Counter). w.values) c.self.view_is in
    subst (λ u. CanValue v u c.args.ordinal) (sym values) (can_read (subst CanTable c.self.view_is c.self.invariant.0) c.requires (c.if-not-may_count.ensures.yes refl).records)

pub returns-in_err-number : goal.returns-in_err-number
returns-in_err-number g c =
    let p = err_from_is_err_and c.from_residual.result c.from_residual.ensures.1 in
    let values = ap (λ (w : Counter). w.values) c.self.view_is in
    rw (p.1, p.2) (after_count (Err c.in_err-number.field-0.0) c.requires
    (count_unread c.args.self.now c.args.ordinal (c.if-not-may_count.ensures.yes refl) c.in_err-number.field-0.0
    (read_as c.args.ordinal (Err c.in_err-number.field-0.0) values c.in_err-number.ensures.did)) c.in_err-number.ensures.outside)

pub try_places-requires : goal.try_places-requires
try_places-requires g c =
    let values = ap (λ (w : Counter). w.values) c.self.view_is in
    can_try c.in_ok-number.number (subst CanTable c.self.view_is c.self.invariant.0) c.requires (c.if-not-may_count.ensures.yes refl)
    (read_as c.args.ordinal (Ok c.in_ok-number.number) values c.in_ok-number.ensures.did) c.in_ok-number.ensures.outside

pub returns : goal.returns
returns g c =
    let values = ap (λ (w : Counter). w.values) c.self.view_is in
    after_count c.try_places.result c.requires
    (counted_then c.args.self.now c.args.ordinal (c.if-not-may_count.ensures.yes refl) c.in_ok-number.number
    (read_as c.args.ordinal (Ok c.in_ok-number.number) values c.in_ok-number.ensures.did) c.try_places.result
    (subst (λ y. Did (g.M.Memory.view c.number.new.m) (g.M.Memory.view c.try_places.new.m)
    (DoesTries (g.M.Memory.view c.number.new.m).caller c.args.self.now c.args.ordinal y c.try_places.result))
    (to_z-of_z w64 c.in_ok-number.number (search (rules, c.number.type_inv))) c.try_places.ensures.did)) c.try_places.ensures.outside
