use Rattle.std.{specs.Result.{result_err}, proofs.Common.{◌≡◌, ◌∙◌, None, Ok, Err, Result, refl, sym}}
use Rattle.fm_script.{specs.{declared.player.Player.{Player}, Players.{playing}}, proofs.Worker.{did}}
use Rattle.fm_script.proofs.lines.LinesWorkPlayer.work.Goals as goal

not_cut : {E : Type 0} (r : Result (Unit {0}) E) → result_err r ≡ None → r ≡ Ok tt
not_cut (Ok u) e = refl
not_cut (Err x) e = absurd (cc)

pub returns-clause-did : goal.returns-clause-did
returns-clause-did g c =
    let w = playing c.args.self.now.names.now c.args.self.now.lines.now c.args.self.now.firsts.now in
    let now : Player = c.play_as-played.new.player in
    let new : Player = record now { caller = c.caller-player.result; cut = c.err-player.result } in
    did w c.args.memory.now c.play_as-played.new.memory c.args.player.now now new c.play_as-played.result c.play_as-played.ensures
    c.caller-player.ensures.sound refl refl c.caller-player.ensures.is refl refl
    (λ none. not_cut c.play_as-played.result (sym c.err-player.ensures.value ∙ none))
