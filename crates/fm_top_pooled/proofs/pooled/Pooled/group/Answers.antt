use Rattle.std.proofs.Common.{ap, sym, subst, ◌∙◌, arith, length}
use Rattle.fm_group.specs.{Table.{Counter}}
use Rattle.fm_top_pooled.specs.{Grouped.{HasTableFor, values_in}, Views.{PooledView}}
use Rattle.fm_top_pooled.proofs.{Beside.{can_open}, Tables.{are_valued, groups_of, many_are, shows_of, some_table, table_fits}}
use Rattle.fm_top_pooled.proofs.pooled.Pooled.group.Goals as goal

pub of-values-requires : goal.of-values-requires
of-values-requires g c =
    are_valued c.self.invariant c.args.path c.args.self.bytes (ap (λ (v : PooledView). v.bytes) c.self.view_is) c.requires.path c.requires.even

pub table_size-requires : goal.table_size-requires
table_size-requires g c =
    let many = many_are c.self.invariant c.args.path c.args.self.bytes (ap (λ (v : PooledView). v.bytes) c.self.view_is) c.of-values.ensures in
    let is = c.len.ensures in
    let few = c.requires.few in
    omega (arith, many, is, few)

pub open_beside-places-requires-clause-can : goal.open_beside-places-requires-clause-can
open_beside-places-requires-clause-can g c =
    let many = many_are c.self.invariant c.args.path c.args.self.bytes (ap (λ (v : PooledView). v.bytes) c.self.view_is) c.of-values.ensures in
    can_open c.self.inside.stock.segment c.table_size.result c.self.invariant (some_table c.table_size.ensures.table)
    (table_fits c.table_size.ensures.table (c.len.ensures ∙ many)
    (subst (λ (v : PooledView). HasTableFor (values_in c.args.path (length c.args.self.bytes)) v.beside) (sym c.self.view_is) c.requires.beside))

pub returns-clause-groups : goal.returns-clause-groups
returns-clause-groups g c =
    groups_of c.with_order-table.result.values c.open_beside-places.new.pass c.args.self.bytes
    (ap (λ (w : Counter). w.values) c.with_order-table.ensures ∙ c.of-values.ensures)
    (c.open_beside-places.ensures.bytes ∙ ap (λ (v : PooledView). v.bytes) c.self.view_is) c.in_ok-found.ensures.value

pub returns-clause-shows : goal.returns-clause-shows
returns-clause-shows g c =
    shows_of c.with_order-table.result.values c.open_beside-places.new.pass c.args.self.bytes
    (ap (λ (w : Counter). w.values) c.with_order-table.ensures ∙ c.of-values.ensures)
    (c.open_beside-places.ensures.bytes ∙ ap (λ (v : PooledView). v.bytes) c.self.view_is) c.in_ok-found.ensures.read c.finish-finished.ensures
