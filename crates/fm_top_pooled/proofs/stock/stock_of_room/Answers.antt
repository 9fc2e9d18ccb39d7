use Rattle.std.proofs.Common.{◌≤◌, ap, ◌∙◌, sym, subst, arith}
use Rattle.fm_rule_facts.specs.{Loans.{loans_of}, Views.{View, limit_of}}
use Rattle.fm_words.specs.declared.shape.Shape.{Shape}
use Rattle.fm_top_pooled.{specs.Stocked.{IsMadeFor}, proofs.{Filed.{one_known, stock_is}, Left.{left_beside}, Opening.{begun, can_stock, pages_left}}}
use Rattle.fm_top_pooled.proofs.stock.stock_of_room.Goals as goal

pub open_shared-arena-requires-clause-lone : goal.open_shared-arena-requires-clause-lone
open_shared-arena-requires-clause-lone g c =
    let made = c.in-Ok.ensures in
    begun c.in-Ok.pool c.shape_for-shape.result c.in-Ok.pass made.pool made.pass made.sound

pub open_shared-arena-requires-clause-free : goal.open_shared-arena-requires-clause-free
open_shared-arena-requires-clause-free g c =
    let made = c.in-Ok.ensures in
    let lone = begun c.in-Ok.pool c.shape_for-shape.result c.in-Ok.pass made.pool made.pass made.sound in
    let room : c.args.size ≤ limit_of c.in-Ok.pool.shape = subst (λ (z : Shape). c.args.size ≤ limit_of z) (sym made.pool) c.shape_for-shape.ensures.made.first in
    (can_stock c.in-Ok.pool c.in-Ok.pass c.args.size lone (ap (λ (v : View). v.seen) made.pass) room).free

pub give-requires-clause-room : goal.give-requires-clause-room
give-requires-clause-room g c = subst (λ (z : Shape). c.args.size ≤ limit_of z) (sym c.in-Ok.ensures.pool) c.shape_for-shape.ensures.made.first

pub give-requires-clause-pages : goal.give-requires-clause-pages
give-requires-clause-pages g c =
    let made = c.in-Ok.ensures in
    let lone = begun c.in-Ok.pool c.shape_for-shape.result c.in-Ok.pass made.pool made.pass made.sound in
    let room : c.args.size ≤ limit_of c.in-Ok.pool.shape = subst (λ (z : Shape). c.args.size ≤ limit_of z) (sym made.pool) c.shape_for-shape.ensures.made.first in
    pages_left c.args.size lone c.open_shared-arena.ensures
    (can_stock c.in-Ok.pool c.in-Ok.pass c.args.size lone (ap (λ (v : View). v.seen) made.pass) room).pages

pub of-requires : goal.of-requires
of-requires g c = omega (arith, c.requires.short)

pub returns-clause-stock : goal.returns-clause-stock
returns-clause-stock g c =
    let made = c.in-Ok.ensures in
    let opened = c.open_shared-arena.ensures in
    let given = c.give.ensures in
    let is = given.held.given_is in
    let for = subst (λ (z : Shape). IsMadeFor c.args.size c.args.beside z) (sym made.pool) c.shape_for-shape.ensures.made in
    let none = ap (λ (v : View). v.seen) made.pass in
    stock_is c.of.result c.args.size given.lone given.held.held (omega (arith, is)) for.first opened.shared
    (one_known c.in-Ok.pass c.give.new.pass c.open_shared-arena.result none (λ b k. opened.only b (sym (given.elsewhere.arenas b) ∙ k))) for.passes
    (left_beside opened.lone (opened.loans ∙ ap loans_of none) opened.empty given for) c.of.ensures
