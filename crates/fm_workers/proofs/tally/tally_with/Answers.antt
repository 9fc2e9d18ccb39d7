use Rattle.std.proofs.Common.{◌≡◌, ◌%◌, arith, refl, sym, ap, ◌∙◌, subst, inl, inr, Ok, Err}
use Rattle.fm_base.specs.declared.{arena_id.ArenaId.{ArenaId}, refusal.Refusal.TheVariants.{Ragged, Unsupported, WrongThread}}
use Rattle.fm_workers_shares.specs.Shares.{IsCut}
use Rattle.fm_workers.specs.declared.tally.Total.{Total}
use Rattle.fm_workers.proofs.{Queried.{asked, even_of}, Tallied.{can_be_tallied, shared_tallied, tallied, tallied_none, tallied_refused}, Totals.{sums_to}}
use Rattle.fm_workers.proofs.tally.tally_with.Goals as goal

pub returns-then-not-is_tally-clause-tallied : goal.returns-then-not-is_tally-clause-tallied
returns-then-not-is_tally-clause-tallied g c =
    tallied_none c.args.pass.now c.args.q.now c.args.s.now c.args.counts.now c.args.threads Unsupported tt c.requires.query.known c.requires.known
    (c.if-not-is_tally.ensures, refl)

pub returns-then-rest-ne0-clause-tallied : goal.returns-then-rest-ne0-clause-tallied
returns-then-rest-ne0-clause-tallied g c =
    let some : ¬ (c.size.result % c.record_size.result ≡ 0) = c.if-rest-ne0.true in
    tallied_none c.args.pass.now c.args.q.now c.args.s.now c.args.counts.now c.args.threads (Ragged (c.size.result % c.record_size.result)) tt
    c.requires.query.known c.requires.known
    (c.if-not-is_tally.ensures, (λ i. c.size.ensures.size i % c.record_size.ensures.size i), omega (arith, some), refl)

pub returns-then-is_confined-clause-tallied : goal.returns-then-is_confined-clause-tallied
returns-then-is_confined-clause-tallied g c =
    let even = even_of c.args.q.now c.args.s.now c.size.result c.record_size.result c.size.ensures.size c.record_size.ensures.size c.if-rest-ne0.false in
    let kind = ap (λ (a : ArenaId). a.kind) (sym c.arena.ensures) ∙ c.is_confined.ensures.yes c.if-is_confined.true in
    tallied_none c.args.pass.now c.args.q.now c.args.s.now c.args.counts.now c.args.threads WrongThread tt c.requires.query.known c.requires.known
    (c.if-not-is_tally.ensures, even, inl kind, refl)

pub returns-then-is_confined-2-clause-tallied : goal.returns-then-is_confined-2-clause-tallied
returns-then-is_confined-2-clause-tallied g c =
    let even = even_of c.args.q.now c.args.s.now c.size.result c.record_size.result c.size.ensures.size c.record_size.ensures.size c.if-rest-ne0.false in
    let kind = ap (λ (a : ArenaId). a.kind) (sym c.arena-2.ensures) ∙ c.is_confined-2.ensures.yes c.if-is_confined-2.true in
    tallied_none c.args.pass.now c.args.q.now c.args.s.now c.args.counts.now c.args.threads WrongThread tt c.requires.query.known c.requires.known
    (c.if-not-is_tally.ensures, even, inr kind, refl)

pub returns-in-Ok-clause-tallied : goal.returns-in-Ok-clause-tallied
returns-in-Ok-clause-tallied g c =
    let can = can_be_tallied c.args.q.now c.args.s.now c.args.counts.now c.size.result c.record_size.result c.arena.result c.arena-2.result
    c.if-not-is_tally.ensures c.size.ensures.size c.record_size.ensures.size c.if-rest-ne0.false c.arena.ensures
    (c.is_confined.ensures.no c.if-is_confined.false) c.arena-2.ensures (c.is_confined-2.ensures.no c.if-is_confined-2.false) in
    let start : Total = record { counts = Ok c.none.result } in
    let so = shared_tallied c.args.q.now c.args.s.now c.args.counts.now c.args.threads c.of.result c.of.ensures.cut c.args.pass.now c.share_out.new.pass
    start c.share_out.new.whole (Ok tt) c.in-Ok.ensures.shared in
    tallied (asked c.args.q.now c.args.s.now c.args.threads) c.args.counts.now (subst IsCut c.of.ensures.cut c.of.ensures.whole) can c.requires.longs
    c.requires.other c.args.threads refl c.args.pass.now c.share_out.new.pass start c.share_out.new.whole c.requires.query.known c.requires.known so
    c.share_out.new.whole.counts (sums_to start c.share_out.new.whole so.ends.1.parts c.none.result refl c.none.ensures so.ends.1.joined)

pub returns-in-Err-clause-tallied : goal.returns-in-Err-clause-tallied
returns-in-Err-clause-tallied g c =
    let can = can_be_tallied c.args.q.now c.args.s.now c.args.counts.now c.size.result c.record_size.result c.arena.result c.arena-2.result
    c.if-not-is_tally.ensures c.size.ensures.size c.record_size.ensures.size c.if-rest-ne0.false c.arena.ensures
    (c.is_confined.ensures.no c.if-is_confined.false) c.arena-2.ensures (c.is_confined-2.ensures.no c.if-is_confined-2.false) in
    let start : Total = record { counts = Ok c.none.result } in
    let so = shared_tallied c.args.q.now c.args.s.now c.args.counts.now c.args.threads c.of.result c.of.ensures.cut c.args.pass.now c.share_out.new.pass
    start c.share_out.new.whole (Err c.in-Err.refusal) c.in-Err.ensures.shared in
    tallied_refused (asked c.args.q.now c.args.s.now c.args.threads) c.args.counts.now (subst IsCut c.of.ensures.cut c.of.ensures.whole) can c.requires.longs
    c.requires.other c.args.threads refl c.args.pass.now c.share_out.new.pass start c.share_out.new.whole c.requires.query.known c.requires.known
    c.in-Err.refusal so
