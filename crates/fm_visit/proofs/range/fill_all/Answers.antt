use Rattle.std.proofs.{Common.{◌≡◌, ℕ, List, ◌+◌, ◌-◌, ◌*◌, ◌/◌, ◌≤◌, arith, ap, length, drop, replicate, ◌∙◌, sym, subst}, lemmas.List.{length-replicate, length-take-le, length-drop}}
use Rattle.fm_base.specs.{Does.{CanReachAll}, Learnt.{AfterStores}, Visits.{piece_width}}
use Rattle.fm_segment_access.proofs.Filling.{copies}
use Rattle.fm_visit.proofs.{Filling.{next_copies}, Putting.{up_to_starts, up_to_next, up_to_piece, up_to_all, next_words, still_reaches, reaches_word, reaches_words}}
use Rattle.fm_visit.proofs.range.fill_all.Goals as goal

pub loop-at-init : goal.loop-at-init
loop-at-init g c = up_to_starts c.args.place (replicate c.args.size c.args.byte) c.requires.inside

pub store_words-requires : goal.store_words-requires
store_words-requires g c =
    let n = c.min-words.result in
    let least = c.min-words.ensures in
    let below = c.loop-at-test.true in
    let way = c.loop-at.invariant.way in
    let few : c.min-words.result ≤ 64 = omega arith in
    let fits : c.loop-at.at + 8 * c.min-words.result ≤ c.args.place + c.args.size = omega arith in
    let all : 8 * c.min-words.result ≤ 8 * c.min-words.result = omega arith in
    subst (λ (k : ℕ). CanReachAll (g.M.Memory.view c.loop-at.m) (c.loop-at.at / 8) k) (sym (length-take-le n (replicate 64 c.word_of-copies.result) few))
    (reaches_words (still_reaches _ c.loop-at.at (8 * n) c.requires way.did way.inside fits) c.if-at-eq0.true all)

pub loop-at-preserved-then-words-gt0 : goal.loop-at-preserved-then-words-gt0
loop-at-preserved-then-words-gt0 g c =
    let n = c.min-words.result in
    let now = g.M.Memory.view c.loop-at.m in
    let next = g.M.Memory.view c.store_words.new.self in
    let least = c.min-words.ensures in
    let below = c.loop-at-test.true in
    let above = c.loop-at.invariant.above in
    let way = c.loop-at.invariant.way in
    let bytes = replicate c.args.size c.args.byte in
    let size : length (replicate c.args.size c.args.byte) ≡ c.args.size = length-replicate c.args.size c.args.byte in
    let few : c.min-words.result ≤ 64 = omega arith in
    let fits : c.loop-at.at + 8 * c.min-words.result ≤ c.args.place + c.args.size = omega arith in
    let rest : c.loop-at.at - c.args.place + 8 * c.min-words.result ≤ c.args.size = omega arith in
    let is = next_copies c.word_of-copies.ensures c.word_of-copies.type_inv n 64 (c.loop-at.at - c.args.place) c.args.size few rest in
    up_to_next c.loop-at.invariant (8 * n) (omega arith)
    (next_words c.loop-at.at n (drop (c.loop-at.at - c.args.place) bytes) way.inside c.if-at-eq0.true (omega (arith, length-drop (c.loop-at.at - c.args.place) bytes))
    (subst (λ (ws : List ℕ). AfterStores now next (c.loop-at.at / 8) ws) is c.store_words.ensures))
    (c.store_words.ensures.inside ∙ way.inside)

pub put_inside-requires-clause-reach : goal.put_inside-requires-clause-reach
put_inside-requires-clause-reach g c =
    let p = c.piece_width-width.ensures in
    reaches_word (still_reaches _ c.loop-at.at c.piece_width-width.result c.requires c.loop-at.invariant.way.did c.loop-at.invariant.way.inside p.before_end) p.some

pub loop-at-preserved : goal.loop-at-preserved
loop-at-preserved g c =
    let p = c.piece_width-width.ensures in
    let above = c.loop-at.invariant.above in
    let size : length (replicate c.args.size c.args.byte) ≡ c.args.size = length-replicate c.args.size c.args.byte in
    let before = p.before_end in
    let within = p.within in
    rw c.from-at.ensures (up_to_piece c.loop-at.invariant c.piece_width-width.result c.read-part.result p.some (omega arith)
    (p.value ∙ ap (λ n. piece_width c.loop-at.at (c.args.place + n)) (sym size))
    (c.read-part.ensures ∙ copies c.word_of-copies.result c.piece_width-width.result c.args.byte (c.loop-at.at - c.args.place) c.args.size c.word_of-copies.ensures
    (omega arith) (omega arith)) c.put_inside.ensures.did c.put_inside.ensures.inside)

pub returns-clause-did : goal.returns-clause-did
returns-clause-did g c = up_to_all c.loop-at.invariant (let f = c.loop-at-test.false in omega (arith, length-replicate c.args.size c.args.byte))
