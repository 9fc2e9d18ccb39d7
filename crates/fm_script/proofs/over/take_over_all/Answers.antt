use Rattle.std.proofs.{Common.{◌≡◌, ◌+◌, ◌++◌, All, List, length, length-append, map, take, append_assoc, ap, sym, ◌∙◌, subst, arith}, lemmas.List.{take_all}}
use Rattle.fm_script_lines.specs.{declared.{bound.Bound.{Bound}, standing.Standing.{Standing}}, Standings.{IsBacked, standing_as}, Tokens.{Backs}}
use Rattle.fm_script_lines.proofs.Returning.{keeps_then}
use Rattle.fm_script.{specs.{declared.player.Player.{Player}, Mains.{TakesOver}, Runs.{names_lent}}, proofs.Arranged.{all_of_both, lent_room, lent_taken}}
use Rattle.fm_script.proofs.over.take_over_all.Goals as goal

pub take_over-requires : goal.take_over-requires
take_over-requires c =
    let i = c.loop-player.invariant in
    let k = c.loop-player.player-index in
    let ps : List Player = c.args.players.now in
    let p : Player = c.player-item.result in
    record {
      room =
          let here = lent_room ps k p c.loop-player-test.true c.player-item.is in
          let long = ap (λ (xs : List Standing). length xs) i.own in
          let parts = length-append c.args.table.now.own.items (names_lent (take k ps)) in
          let same = ap (λ (xs : List Bound). length xs) c.as_slice.ensures.value in
          let room = c.requires in
          let cap = i.keeps.room in
          omega (arith, here, long, parts, same, room, cap);
    }

pub loop-player-preserved : goal.loop-player-preserved
loop-player-preserved c =
    let i = c.loop-player.invariant in
    let k = c.loop-player.player-index in
    let ps : List Player = c.args.players.now in
    let p : Player = c.player-item.result in
    let was : List Standing = c.args.table.now.own.items in
    let t = c.loop-player.table in
    let next : List Standing = c.take_over.new.self.own.items in
    let mine : List Standing = map standing_as p.lent.items in
    let e = c.take_over.ensures in
    let more : names_lent (take (k + 1) ps) ≡ names_lent (take k ps) ++ mine = lent_taken ps k p c.loop-player-test.true c.player-item.is in
    let taken : map standing_as c.as_slice.result.now ≡ mine = ap (λ (xs : List Bound). map standing_as xs) c.as_slice.ensures.value in
    let base : t.base.now ≡ c.args.table.now.base.now = λ j. (i.keeps.base j).now in
    record {
      keeps = keeps_then i.keeps e.keeps;
      own = e.own ∙ ((λ j. i.own j ++ taken j)
          ∙ (append_assoc was (names_lent (take k ps)) mine ∙ ap (λ (xs : List Standing). was ++ xs) (sym more)));
      backs = λ v holds handles b known.
          let parts = all_of_both (IsBacked v) (names_lent (take k ps)) mine (subst (λ (xs : List Standing). All (IsBacked v) xs) more known) in
          subst (λ (bs : List Standing). Backs v holds handles bs next) base
          (e.backs v holds handles
          (subst (λ (bs : List Standing). Backs v holds handles bs t.own.items) (sym base) (i.backs v holds handles b parts.0))
          (subst (λ (xs : List Standing). All (IsBacked v) xs) (sym taken) parts.1));
    }

pub returns : goal.returns
returns c =
    subst (λ (ps : List Player). TakesOver c.args.table.now c.loop-player.table ps)
    (take_all c.loop-player.player-index c.args.players.now c.loop-player-test.false) c.loop-player.invariant
