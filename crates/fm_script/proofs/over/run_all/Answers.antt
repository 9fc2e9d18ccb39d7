use Rattle.std.proofs.Common.{◌∙◌, List, length, ap, sym, subst, arith}
use Rattle.fm_script.specs.{declared.player.Player.{Player}, Mains.{TakesOver}, Runs.{names_lent}}
use Rattle.fm_script.proofs.Staging.{all_after, all_failed, can_first, can_last, can_work, over_room, worked_over}
use Rattle.fm_script.proofs.over.run_all.Goals as goal

pub play_main-pass-requires : goal.play_main-pass-requires
play_main-pass-requires g c = record {
  outside = c.requires.can.outside;
  can = can_first _ _ _ _ _ _ _ c.requires.can;
}

pub returns-then-is_err : goal.returns-then-is_err
returns-then-is_err g c =
    let e = c.play_main-pass.ensures in
    all_failed _ _ _ _ _ _ _ c.requires.can c.play_main-pass.result.0 c.play_main-pass.new.table c.play_main-pass.new.replies c.play_main-pass.result.1
    e.after c.play_main-pass.result.0 _ c.play_main-pass.result.1 (sym c.is_err.ensures.value ∙ c.if-is_err.true) (λ holds handles b. b) e.outside

pub work_players-worked-requires-clause-can : goal.work_players-worked-requires-clause-can
work_players-worked-requires-clause-can g c κs within =
    let e = c.play_main-pass.ensures in
    can_work _ _ _ _ _ _ _ c.requires.can c.play_main-pass.result.0 c.play_main-pass.new.table c.play_main-pass.new.replies c.play_main-pass.result.1 e.after
    (sym c.is_err.ensures.value ∙ c.if-is_err.false) e.sound c.standings.result.now c.standings.ensures e.outside

pub returns-then-is_err-2 : goal.returns-then-is_err-2
returns-then-is_err-2 g c =
    let e = c.play_main-pass.ensures in
    let w = c.work_players-worked in
    all_failed _ _ _ _ _ _ _ c.requires.can c.play_main-pass.result.0 c.play_main-pass.new.table c.play_main-pass.new.replies c.play_main-pass.result.1
    e.after w.new.pass _ w.result (sym c.is_err-2.ensures.value ∙ c.if-is_err-2.true)
    (λ holds handles b. w.ensures.backs holds handles _ _ b) w.ensures.outside

pub take_over_all-requires : goal.take_over_all-requires
take_over_all-requires g c =
    let e = c.play_main-pass.ensures in
    let w = worked_over _ _ _ _ _ _ c.standings.ensures c.work_players-worked.result (sym c.is_err-2.ensures.value ∙ c.if-is_err-2.false)
    c.work_players-worked.ensures.worked in
    let room = over_room _ _ _ _ _ _ _ c.requires.can c.play_main-pass.result.0 c.play_main-pass.new.table c.play_main-pass.new.replies
    c.play_main-pass.result.1 e.after (sym c.is_err.ensures.value ∙ c.if-is_err.false) e.sound c.work_players-worked.new.pass _ w
    c.work_players-worked.ensures.backs in
    let slice = ap (λ (ps : List Player). length (names_lent ps)) c.as_slice.ensures.value in
    omega (arith, room, slice)

pub play_main-requires : goal.play_main-requires
play_main-requires g c =
    let e = c.play_main-pass.ensures in
    let w = worked_over _ _ _ _ _ _ c.standings.ensures c.work_players-worked.result (sym c.is_err-2.ensures.value ∙ c.if-is_err-2.false)
    c.work_players-worked.ensures.worked in
    record {
      outside = c.work_players-worked.ensures.outside;
      can = can_last _ _ _ _ _ _ _ c.requires.can c.play_main-pass.result.0 c.play_main-pass.new.table c.play_main-pass.new.replies
          c.play_main-pass.result.1 e.after (sym c.is_err.ensures.value ∙ c.if-is_err.false) e.sound c.work_players-worked.new.pass _ w
          c.work_players-worked.ensures.backs c.take_over_all.new.table
          (subst (λ (ps : List Player). TakesOver c.play_main-pass.new.table c.take_over_all.new.table ps) c.as_slice.ensures.value c.take_over_all.ensures)
          c.work_players-worked.ensures.outside;
    }

pub returns : goal.returns
returns g c =
    let e = c.play_main-pass.ensures in
    let w = worked_over _ _ _ _ _ _ c.standings.ensures c.work_players-worked.result (sym c.is_err-2.ensures.value ∙ c.if-is_err-2.false)
    c.work_players-worked.ensures.worked in
    all_after _ _ _ _ _ _ _ c.requires.can c.play_main-pass.result.0 c.play_main-pass.new.table c.play_main-pass.new.replies c.play_main-pass.result.1 e.after
    (sym c.is_err.ensures.value ∙ c.if-is_err.false) e.sound c.work_players-worked.new.pass _ w c.work_players-worked.ensures.backs c.take_over_all.new.table
    (subst (λ (ps : List Player). TakesOver c.play_main-pass.new.table c.take_over_all.new.table ps) c.as_slice.ensures.value c.take_over_all.ensures)
    c.play_main.result.0 c.play_main.new.table c.play_main.new.replies c.play_main.result.1 c.play_main.ensures.after c.play_main.ensures.outside
