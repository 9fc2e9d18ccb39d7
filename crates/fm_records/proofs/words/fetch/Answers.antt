-- A word is known, or it is read.
use Rattle.std.proofs.Common.{Err, Ok, refl, subst, sym}
use Rattle.fm_base.specs.declared.refusal.Refusal.TheVariants.{Closed}
use Rattle.fm_records.{specs.Reads.{Fetches, Sees}, proofs.Seeing.{reaches_word, sees_none, word_closed, word_read}}
use Rattle.fm_records.proofs.words.fetch.Goals as goal

pub returns-in-Some : goal.returns-in-Some
returns-in-Some g c =
    let v = g.M.Memory.view c.args.m.now in
    subst (λ o. Sees v v c.args.s.now (Fetches o c.args.word) (Ok c.in-Some.found)) (sym c.in-Some.is) (sees_none v c.args.s.now c.in-Some.found (refl, refl))

pub returns-in-Err : goal.returns-in-Err
returns-in-Err g c =
    let v = g.M.Memory.view in
    subst (λ o. Sees (v c.args.m.now) (v c.enter.new.self) c.args.s.now (Fetches o c.args.word) (Err Closed)) (sym c.in_default.is)
    (word_closed c.args.s.now c.args.word c.arena.result c.in-Err.field-0 c.arena.ensures c.requires.can c.in-Err.ensures.did)

pub load-found-requires : goal.load-found-requires
load-found-requires g c = reaches_word c.in-Ok.field-0 c.arena.ensures c.requires.can c.requires.word c.in-Ok.ensures.did

pub returns : goal.returns
returns g c =
    let v = g.M.Memory.view in
    subst (λ o. Sees (v c.args.m.now) (v c.leave.new.self) c.args.s.now (Fetches o c.args.word) (Ok c.load-found.result)) (sym c.in_default.is)
    (word_read c.args.s.now c.args.word c.load-found.result c.arena.result c.in-Ok.field-0 c.arena.ensures c.requires.word c.in-Ok.ensures.did
    c.load-found.ensures.did c.leave.ensures.did)
