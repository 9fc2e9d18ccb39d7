use Rattle.std.proofs.{Common.{◌≡◌, List, [], ◌∷◌, ◌++◌, length, ap, arith}, lemmas.List.{length_push}}
use Rattle.fm_script.{specs.declared.player.Player.{Player}, proofs.Arranged.{player_more}}
use Rattle.fm_script.proofs.players.players_of.Goals as goal

pub loop-place-preserved : goal.loop-place-preserved
loop-place-preserved c =
    let i = c.loop-place.invariant in
    let k = c.loop-place.place in
    let ps : List Player = c.loop-place.players.items in
    let p : Player = c.in_ok-player.player in
    let next : List Player = c.push.new.self.items in
    let pushed : next ≡ ps ++ p ∷ [] = c.in_ok-push.ensures.items in
    record {
      many = let one = ap (λ (xs : List Player). length xs) pushed in let long = length_push ps p in let many = i.many in omega (arith, one, long, many);
      each = player_more c.args.lines.now c.args.starts.now k ps next p pushed i.many c.in_ok-player.ensures i.each;
    }
