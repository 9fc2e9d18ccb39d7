use Rattle.std.proofs.Common.{rules, ◌<◌, length, refl, ◌∙◌}
use Rattle.std.proofs.lemmas.List.{length-set}
use Rattle.fm_async.proofs.Rounds.{round_starts, round_can, round_on}
use Rattle.fm_async.proofs.waiting.advance_all.Goals as goal

pub loop-i-init : goal.loop-i-init
loop-i-init c = (round_starts _ c.requires, refl, refl)

pub advance_one-requires : goal.advance_one-requires
advance_one-requires c =
    let l : c.loop-i.i < length c.loop-i.closes.items = (let t = c.loop-i-test.true in let e = c.len-i-end.ensures in let m = c.loop-i.invariant.1 in search (rules, t, e, m)) in
    round_can c.loop-i.invariant.0 c.index_mut-waiting.result.now l c.index_mut-waiting.ensures.value

pub loop-i-preserved : goal.loop-i-preserved
loop-i-preserved c =
    let l : c.loop-i.i < length c.loop-i.closes.items = (let t = c.loop-i-test.true in let e = c.len-i-end.ensures in let m = c.loop-i.invariant.1 in search (rules, t, e, m)) in (
      round_on c.loop-i.invariant.0 c.index_mut-waiting.result.now l c.index_mut-waiting.ensures.value c.advance_one.ensures,
      length-set c.loop-i.closes.items c.loop-i.i c.advance_one.new.waiting ∙ c.loop-i.invariant.1,
      c.loop-i.invariant.2,
    )
