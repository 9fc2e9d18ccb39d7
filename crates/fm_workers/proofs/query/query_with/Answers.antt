use Rattle.std.proofs.Common.{◌≡◌, ◌%◌, arith, refl, sym, ap, ◌∙◌, subst, inr, Ok, Err}
use Rattle.fm_base.specs.declared.{arena_id.ArenaId.{ArenaId}, refusal.Refusal.TheVariants.{Memory, Ragged, WrongThread}}
use Rattle.fm_workers_crew.specs.Crew.{callers}
use Rattle.fm_workers_shares.specs.Shares.{IsCut}
use Rattle.fm_workers.proofs.Queried.{asked, can_join, even_of, open_to_all, queried, queried_none, queried_refused, shared_asked}
use Rattle.fm_workers.proofs.query.query_with.Goals as goal

pub returns-then-rest-ne0-clause-queried : goal.returns-then-rest-ne0-clause-queried
returns-then-rest-ne0-clause-queried g c =
    let some : ¬ (c.size.result % c.record_size.result ≡ 0) = c.if-rest-ne0.true in
    queried_none c.args.pass.now c.args.q.now c.args.s.now c.args.threads (Ragged (c.size.result % c.record_size.result)) tt c.requires.known
    ((λ i. c.size.ensures.size i % c.record_size.ensures.size i), omega (arith, some), refl)

pub returns-then-is_confined-clause-queried : goal.returns-then-is_confined-clause-queried
returns-then-is_confined-clause-queried g c =
    let even = even_of c.args.q.now c.args.s.now c.size.result c.record_size.result c.size.ensures.size c.record_size.ensures.size c.if-rest-ne0.false in
    let kind = ap (λ (a : ArenaId). a.kind) (sym c.arena.ensures) ∙ c.is_confined.ensures.yes c.if-is_confined.true in
    queried_none c.args.pass.now c.args.q.now c.args.s.now c.args.threads WrongThread tt c.requires.known (even, kind, refl)

pub returns-in_default-clause-queried : goal.returns-in_default-clause-queried
returns-in_default-clause-queried g c =
    let shared = open_to_all c.args.q.now c.args.s.now c.size.result c.record_size.result c.arena.result c.size.ensures.size c.record_size.ensures.size
    c.if-rest-ne0.false c.arena.ensures (c.is_confined.ensures.no c.if-is_confined.false) in
    queried_none c.args.pass.now c.args.q.now c.args.s.now c.args.threads Memory tt c.requires.known (shared, inr tt)

pub join_all-requires : goal.join_all-requires
join_all-requires g c =
    let shared = open_to_all c.args.q.now c.args.s.now c.size.result c.record_size.result c.arena.result c.size.ensures.size c.record_size.ensures.size
    c.if-rest-ne0.false c.arena.ensures (c.is_confined.ensures.no c.if-is_confined.false) in
    let so = shared_asked c.args.q.now c.args.s.now c.args.threads c.of-shares.result c.count.result c.of-shares.ensures.cut c.count.ensures c.in-Ok.slots
    c.in-Ok.ensures c.args.pass.now c.share_out.new.pass c.share_out.new.whole (Ok tt) c.in-Ok-share_out.ensures.shared in
    can_join (asked c.args.q.now c.args.s.now c.args.threads) (subst IsCut c.of-shares.ensures.cut c.of-shares.ensures.whole) shared so.crew.more
    (callers so.crew.crew) c.share_out.new.whole so.ends.1

pub returns-in-Ok-share_out-clause-queried : goal.returns-in-Ok-share_out-clause-queried
returns-in-Ok-share_out-clause-queried g c =
    let shared = open_to_all c.args.q.now c.args.s.now c.size.result c.record_size.result c.arena.result c.size.ensures.size c.record_size.ensures.size
    c.if-rest-ne0.false c.arena.ensures (c.is_confined.ensures.no c.if-is_confined.false) in
    let so = shared_asked c.args.q.now c.args.s.now c.args.threads c.of-shares.result c.count.result c.of-shares.ensures.cut c.count.ensures c.in-Ok.slots
    c.in-Ok.ensures c.args.pass.now c.share_out.new.pass c.share_out.new.whole (Ok tt) c.in-Ok-share_out.ensures.shared in
    queried (asked c.args.q.now c.args.s.now c.args.threads) (subst IsCut c.of-shares.ensures.cut c.of-shares.ensures.whole) shared c.args.pass.now
    c.share_out.new.pass c.share_out.new.whole c.args.threads refl c.requires.known so c.join_all.result c.join_all.ensures.joined c.join_all.ensures.memory

pub returns-in-Err-clause-queried : goal.returns-in-Err-clause-queried
returns-in-Err-clause-queried g c =
    let shared = open_to_all c.args.q.now c.args.s.now c.size.result c.record_size.result c.arena.result c.size.ensures.size c.record_size.ensures.size
    c.if-rest-ne0.false c.arena.ensures (c.is_confined.ensures.no c.if-is_confined.false) in
    let so = shared_asked c.args.q.now c.args.s.now c.args.threads c.of-shares.result c.count.result c.of-shares.ensures.cut c.count.ensures c.in-Ok.slots
    c.in-Ok.ensures c.args.pass.now c.share_out.new.pass c.share_out.new.whole (Err c.in-Err.refusal) c.in-Err.ensures.shared in
    queried_refused (asked c.args.q.now c.args.s.now c.args.threads) (subst IsCut c.of-shares.ensures.cut c.of-shares.ensures.whole) shared c.args.pass.now
    c.share_out.new.pass c.share_out.new.whole c.args.threads refl c.requires.known c.in-Err.refusal so
